-- Messages each new and behind its parts, with numbers in range: what entering keeps.
use mathlib.Core.Path.{◌≡◌, refl, sym, ◌∙◌, ap, subst}
use mathlib.Core.Logic.{inl, inr}
use mathlib.Core.List.Memᴰ
use mathlib.Core.List.{List, [], ◌∷◌, ◌++◌}
use Prim.Native.Nat.{◌≤◌}
use native.Mathlib.Omega.{arith}
use lib.ListN.{length, length-append}
use Rattle.model.specs.Message.{App}
use Rattle.grammar.specs.Typed.{Typed, name, variable, one, two}
use Rattle.grammar.specs.Filed.{completed, enter, entered, place}
use Rattle.grammar.proofs.Trees.{in?, enter_old, enter_new, place_append, PartsIn, Grown, entered_one, entered_behind, entered_in, completed_one, completed_two, grown_completed}
use Rattle.grammar.proofs.Entering.{SmallTree}
use Rattle.typing.specs.Store.{In, Ready, Sound, none, new}

pub ready_parts : (trees : List Typed) (t : Typed) → Ready trees t → PartsIn trees t
ready_parts trees (name n) r = tt
ready_parts trees (variable n) r = tt
ready_parts trees (one (App f) t) r = r.1
ready_parts trees (two h t u) r = r

pub sound_grown : {trees : List Typed} → Sound trees → Grown trees
sound_grown none = Grown.none
sound_grown (new {trees = l} t s r n) = Grown.more l t (sound_grown s) (ready_parts l t r) n refl

-- ---- more messages behind

-- All that stood there stands there still, at its place.
pub record Grows (trees after : List Typed) : Type 0 where
  pub more : List Typed
  pub whole : after ≡ trees ++ more

pub entered_grows : (trees ts : List Typed) → Grows trees (entered trees ts)
entered_grows trees ts = let (more, e) = entered_behind trees ts in record { more = more; whole = e }

pub enter_grows : (trees : List Typed) (t : Typed) → Grows trees (enter trees t)
enter_grows trees t = subst (Grows trees) (entered_one trees t) (entered_grows trees (t ∷ []))

module _ {trees after : List Typed} (g : Grows trees after) where
  pub grows_in : (t : Typed) → In trees t → In after t
  grows_in t m = subst (λ l. In l t) (sym g.whole) (Memᴰ.append_left g.more m)

  pub grows_place : (t : Typed) → In trees t → place after t ≡ place trees t
  grows_place t m = ap (λ l. place l t) g.whole ∙ place_append trees g.more t m

  pub grows_length : length trees ≤ length after
  grows_length = (let e = ap length g.whole in let l = length-append trees g.more in omega arith)

  pub ready_grows : (t : Typed) → Ready trees t → Ready after t
  ready_grows (name n) r = r
  ready_grows (variable n) r = r
  ready_grows (one (App f) t) (h, i) = (h, grows_in t i)
  ready_grows (two h t u) (i, j) = (grows_in t i, grows_in u j)

-- ---- entering

pub sound_enter : (trees : List Typed) (t : Typed) → Sound trees → Ready trees t → Sound (enter trees t)
sound_enter trees t s r = elim (in? trees t) [ inl h ↦ subst Sound (sym (enter_old trees t h)) s | inr h ↦ subst Sound (sym (enter_new trees t h)) (new t s r h) ]

pub sound_ready : {trees : List Typed} → Sound trees → (t : Typed) → In trees t → Ready trees t
sound_ready none t m = absurd (Memᴰ.not-nil m)
sound_ready (new {trees = l} u s r n) t m = elim (Memᴰ.append_cases l m) [
  | inl k ↦ ready_grows g t (sound_ready s t k)
  | inr k ↦ subst (Ready (l ++ (u ∷ []))) (sym (Memᴰ.eq_of_singleton k)) (ready_grows g u r)
]
  where
    g : Grows l (l ++ (u ∷ []))
    g = record { more = u ∷ []; whole = refl }

-- What a message completes, entered.
sound_completed : (t : Typed) → SmallTree t → (trees : List Typed) → Sound trees → Sound (entered trees (completed t))
unfolding completed entered
sound_completed (name n) h trees s = sound_enter trees (name n) s h
sound_completed (variable n) h trees s = sound_enter trees (variable n) s h
sound_completed (one (App f) t) (h, k) trees s =
    subst Sound (sym (completed_one trees (App f) t))
    (sound_enter (entered trees (completed t)) (one (App f) t) (sound_completed t k trees s) (h, (grown_completed t trees (sound_grown s)).1))
sound_completed (two g t u) (h, k) trees s =
    let a = entered trees (completed t) in
    let i = sound_completed t h trees s in
    subst Sound (sym (completed_two trees g t u)) (sound_enter (entered a (completed u)) (two g t u) (sound_completed u k a i)
    (entered_in a (completed u) t (grown_completed t trees (sound_grown s)).1, (grown_completed u a (sound_grown i)).1))

pub entered_sound : (t : Typed) → SmallTree t → (trees : List Typed) → Sound trees → Sound (entered trees (completed t)) × In (entered trees (completed t)) t
entered_sound t small trees s = (sound_completed t small trees s, (grown_completed t trees (sound_grown s)).1)
