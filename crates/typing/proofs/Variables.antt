-- Members of the messages entered, and their variables.
use mathlib.Core.Path.{◌≡◌, sym, ◌∙◌, ap, subst}
use mathlib.Core.Logic.{◌⊎◌, inl, inr}
use mathlib.Core.List.Memᴰ
use mathlib.Core.List.{List, [], ◌∷◌, Memᴰ}
use Prim.Native.Nat.{ℕ, ◌≤◌}
use native.Mathlib.Omega.{arith}
use native.Mathlib.Decide.{dec_lt}
use lib.ListN.{length, get_or-append}
use Rattle.model.proofs.Read.{clash}
use Rattle.grammar.specs.Typed.{Typed, name, variable, one, two, arg, left, right, Holds, itself, inside}
use Rattle.grammar.specs.Filed.{completed, enter, entered, place}
use Rattle.grammar.proofs.Trees.{in?, enter_old, enter_new, tree_at, place_in, Grown}
use Rattle.grammar.proofs.Filed.{at_in, parts_of_lem}
use Rattle.grammar.proofs.Entering.{parts_in}
use Rattle.typing.specs.Store.{In}
use Rattle.typing.proofs.Trees.{Grows}

-- What stands there after entering stood there, or was entered.
enter_from : (trees : List Typed) (t x : Typed) → In (enter trees t) x → In trees x ⊎ (x ≡ t)
enter_from trees t x m = elim (in? trees t) [
  | inl i ↦ inl (subst (λ l. In l x) (enter_old trees t i) m)
  | inr i ↦ elim (Memᴰ.append_cases trees (subst (λ l. In l x) (enter_new trees t i) m)) [ inl k ↦ inl k | inr k ↦ inr (Memᴰ.eq_of_singleton k) ]
]

pub entered_from : (trees ts : List Typed) (x : Typed) → In (entered trees ts) x → In trees x ⊎ Memᴰ x ts
unfolding entered
entered_from trees [] x h = inl h
entered_from trees (t ∷ ts) x h = elim (entered_from (enter trees t) ts x h) [
  | inr m ↦ inr (Memᴰ.tail m)
  | inl i ↦ elim (enter_from trees t x i) [ inl j ↦ inl j | inr e ↦ inr (Memᴰ.head e) ]
]

-- What is new stands behind all others.
pub grows_new : {trees after : List Typed} → Grows trees after → (x : Typed) → (In trees x → ⊥) → In after x → length trees ≤ place after x
grows_new {trees} {after} g x n m = elim (dec_lt (place after x) (length trees)) [
  | no h ↦ omega arith
  | yes h ↦ (
      let z : tree_at trees (place after x) ≡ x = sym (get_or-append trees g.more (name 0) (place after x) h) ∙ (ap (λ l. tree_at l (place after x)) (sym g.whole) ∙ (place_in after x m).1) in
      absurd (n (subst (In trees) z (at_in trees (place after x) h))))
]

-- ---- variables

pub holds_in : {trees : List Typed} → Grown trees → (n : ℕ) {t : Typed} → Holds n t → In trees t → In trees (variable n)
holds_in g n itself i = i
holds_in {trees} g n {t} (inside p h) i = holds_in g n h (parts_of_lem trees (parts_in g t i) p)

pub completed_holds : (n : ℕ) (t : Typed) → Memᴰ (variable n) (completed t) → Holds n t
unfolding completed
completed_holds n (name m) h = (let e = Memᴰ.eq_of_singleton h in clash (cc))
completed_holds n (variable m) h = (let e : n ≡ m = variable_one (Memᴰ.eq_of_singleton h) in subst (λ k. Holds n (variable k)) e itself)
  where
    variable_one : variable n ≡ variable m → n ≡ m
    variable_one e = cc
completed_holds n (one g t) h = elim (Memᴰ.append_cases (completed t) h) [
  | inl m ↦ inside arg (completed_holds n t m)
  | inr m ↦ (let e = Memᴰ.eq_of_singleton m in clash (cc))
]
completed_holds n (two g t u) h = elim (Memᴰ.append_cases (completed t) h) [
  | inl m ↦ inside left (completed_holds n t m)
  | inr k ↦ elim (Memᴰ.append_cases (completed u) k) [
    | inl m ↦ inside right (completed_holds n u m)
    | inr m ↦ (let e = Memᴰ.eq_of_singleton m in clash (cc))
  ]
]
