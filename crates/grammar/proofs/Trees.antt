-- The messages of a file's cells, in order of first completion: none twice, and the parts of each before it.
use mathlib.Core.Path.{◌≡◌, refl, sym, ◌∙◌, ap, subst}
use mathlib.Core.Logic.{◌⊎◌, inl, inr}
use mathlib.Core.Bool.{Bool, true, false, cond}
use mathlib.Core.List.Memᴰ
use mathlib.Core.List.{List, [], ◌∷◌, ◌++◌, append_assoc, append-nil, Memᴰ}
use Prim.Native.Nat.{ℕ, suc, ◌<◌}
use native.Mathlib.Omega.{arith}
use lib.ListN.{length, get_or}
use borrow.Author.Tests.{eqb-true, eq-eqb}
use Rattle.model.specs.Message.{One, App, Two, Pair, Seal}
use Rattle.model.specs.Format.{any_of}
use Rattle.model.proofs.Read.{clash}
use Rattle.model.proofs.Listed.{bool?, true_false, any_some, some_any, any_none, none_any}
use Rattle.grammar.specs.Typed.{Typed, name, variable, one, two, Entry, tree_of}
use Rattle.grammar.specs.Filed.{same_one, same_two, same, completed, completions, enter, entered, trees_of, place}

-- ---- the same message

pub both : (b c : Bool) → cond b c false ≡ true → (b ≡ true) × (c ≡ true)
both true c e = (refl, e)
both false c e = clash (cc)

one_true : (g f : One) → same_one g f ≡ true → g ≡ f
one_true (App g) (App f) e = ap App (eqb-true g f e)

two_true : (h k : Two) → same_two h k ≡ true → h ≡ k
two_true Pair Pair e = refl
two_true Pair Seal e = clash (cc)
two_true Seal Pair e = clash (cc)
two_true Seal Seal e = refl

pub same_true : (t u : Typed) → same t u ≡ true → t ≡ u
unfolding same
same_true (name n) (name m) e = ap name (eqb-true n m e)
same_true (name n) (variable m) e = clash (cc)
same_true (name n) (one f c) e = clash (cc)
same_true (name n) (two k c d) e = clash (cc)
same_true (variable n) (name m) e = clash (cc)
same_true (variable n) (variable m) e = ap variable (eqb-true n m e)
same_true (variable n) (one f c) e = clash (cc)
same_true (variable n) (two k c d) e = clash (cc)
same_true (one g a) (name m) e = clash (cc)
same_true (one g a) (variable m) e = clash (cc)
same_true (one g a) (one f c) e =
    let (i, j) = both (same_one g f) (same a c) e in
    let k = same_true a c j in
    let l = one_true g f i in
    cc
same_true (one g a) (two k c d) e = clash (cc)
same_true (two h a b) (name m) e = clash (cc)
same_true (two h a b) (variable m) e = clash (cc)
same_true (two h a b) (one f c) e = clash (cc)
same_true (two h a b) (two k c d) e =
    let (i, j) = both (same_two h k) (cond (same a c) (same b d) false) e in
    let (l, m) = both (same a c) (same b d) j in
    let p = two_true h k i in
    let q = same_true a c l in
    let r = same_true b d m in
    cc

one_same : (g : One) → same_one g g ≡ true
one_same (App f) = eq-eqb f f refl

two_same : (h : Two) → same_two h h ≡ true
two_same Pair = refl
two_same Seal = refl

pub same_self : (t : Typed) → same t t ≡ true
unfolding same
same_self (name n) = eq-eqb n n refl
same_self (variable n) = eq-eqb n n refl
same_self (one g t) = rw (one_same g, same_self t)
same_self (two h t u) = rw (two_same h, same_self t, same_self u)

-- ---- messages entered and their places

abbrev pub In : List Typed → Typed → Type 0
In trees t = Memᴰ t trees

pub in? : (trees : List Typed) (t : Typed) → In trees t ⊎ (In trees t → ⊥)
in? trees t = elim (bool? (any_of (same t) trees)) [
  | inl e ↦ (let (u, m, i) = any_some (same t) trees e in inl (subst (In trees) (sym (same_true t u i)) m))
  | inr e ↦ inr (λ m. true_false (same_self t) (any_none (same t) trees e t m))
]

pub enter_old : (trees : List Typed) (t : Typed) → In trees t → enter trees t ≡ trees
enter_old trees t m = rw (some_any (same t) m (same_self t)) refl

pub enter_new : (trees : List Typed) (t : Typed) → (In trees t → ⊥) → enter trees t ≡ trees ++ (t ∷ [])
enter_new trees t n = rw (none_any (same t) trees (λ u m. other u m (bool? (same t u)))) refl
  where
    other : (u : Typed) → In trees u → (same t u ≡ true) ⊎ (same t u ≡ false) → same t u ≡ false
    other u m (inl e) = absurd (n (subst (In trees) (sym (same_true t u e)) m))
    other u m (inr e) = e

-- The message of the cell c; beyond the cells it is his own name, as in a table.
abbrev pub tree_at : List Typed → ℕ → Typed
tree_at trees c = get_or trees c (name 0)

place_cons : (u : Typed) (trees : List Typed) (t : Typed) → ((t ≡ u) × (place (u ∷ trees) t ≡ 0)) ⊎ ((t ≡ u → ⊥) × (place (u ∷ trees) t ≡ suc (place trees t)))
unfolding place
place_cons u trees t = elim (bool? (same t u)) [
  | inl e ↦ inl (same_true t u e, rw e refl)
  | inr e ↦ inr (λ i. true_false (same_self t) (subst (λ x. same t x ≡ false) (sym i) e), rw e refl)
]

-- A message that is there stands at its place.
pub place_in : (trees : List Typed) (t : Typed) → In trees t → (place trees t < length trees) × (tree_at trees (place trees t) ≡ t)
place_in [] t m = absurd (Memᴰ.not-nil m)
place_in (u ∷ trees) t m = elim (place_cons u trees t) [
  | inl (e, z) ↦ (omega arith, ap (tree_at (u ∷ trees)) z ∙ sym e)
  | inr (n, z) ↦ elim (Memᴰ.cases_cons m) [
    | inl e ↦ absurd (n e)
    | inr k ↦ (let (h, i) = place_in trees t k in (omega arith, ap (tree_at (u ∷ trees)) z ∙ i))
  ]
]

-- Further messages do not change it.
pub place_append : (trees more : List Typed) (t : Typed) → In trees t → place (trees ++ more) t ≡ place trees t
place_append [] more t m = absurd (Memᴰ.not-nil m)
place_append (u ∷ trees) more t m = elim (place_cons u trees t) [
  | inl (e, z) ↦ elim (place_cons u (trees ++ more) t) [ inl (f, y) ↦ y ∙ sym z | inr (f, y) ↦ absurd (f e) ]
  | inr (n, z) ↦ elim (Memᴰ.cases_cons m) [
    | inl e ↦ absurd (n e)
    | inr k ↦ elim (place_cons u (trees ++ more) t) [ inl (f, y) ↦ absurd (n f) | inr (f, y) ↦ y ∙ (ap suc (place_append trees more t k) ∙ sym z) ]
  ]
]

-- A new message stands behind the others.
pub place_new : (trees : List Typed) (t : Typed) → (In trees t → ⊥) → place (trees ++ (t ∷ [])) t ≡ length trees
place_new [] t n = elim (place_cons t [] t) [ inl (e, z) ↦ z | inr (f, z) ↦ absurd (f refl) ]
place_new (u ∷ trees) t n = elim (place_cons u (trees ++ (t ∷ [])) t) [
  | inl (e, z) ↦ absurd (n (Memᴰ.head e))
  | inr (f, z) ↦ (let k = place_new trees t (λ m. n (Memᴰ.tail m)) in z ∙ (ap suc k ∙ (let q : suc (length trees) ≡ length (u ∷ trees) = omega arith in q)))
]

-- ---- one after the other

-- The parts of a message are there.
abbrev pub PartsIn : List Typed → Typed → Type 0
PartsIn trees (name n) = Unit
PartsIn trees (variable n) = Unit
PartsIn trees (one g t) = In trees t
PartsIn trees (two h t u) = In trees t × In trees u

-- None twice, and the parts of each before it.
pub data Grown : List Typed → Type 0 where
  none : Grown []
  more : {all : List Typed} (trees : List Typed) (t : Typed) → Grown trees → PartsIn trees t → (In trees t → ⊥) → all ≡ trees ++ (t ∷ []) → Grown all

pub entered_append : (trees ts us : List Typed) → entered trees (ts ++ us) ≡ entered (entered trees ts) us
unfolding entered
entered_append trees [] us = refl
entered_append trees (t ∷ ts) us = entered_append (enter trees t) ts us

pub entered_one : (trees : List Typed) (t : Typed) → entered trees (t ∷ []) ≡ enter trees t
unfolding entered
entered_one trees t = refl

-- What is entered stands behind what was there.
enter_behind : (trees : List Typed) (t : Typed) → (new : List Typed) × (enter trees t ≡ trees ++ new)
enter_behind trees t = elim (in? trees t) [
  | inl m ↦ ([], enter_old trees t m ∙ sym (append-nil trees))
  | inr n ↦ (t ∷ [], enter_new trees t n)
]

pub entered_behind : (trees ts : List Typed) → (new : List Typed) × (entered trees ts ≡ trees ++ new)
unfolding entered
entered_behind trees [] = ([], sym (append-nil trees))
entered_behind trees (t ∷ ts) =
    let (a, e) = enter_behind trees t in
    let (b, f) = entered_behind (enter trees t) ts in
    (a ++ b, f ∙ (ap (λ l. l ++ b) e ∙ append_assoc trees a b))

pub entered_in : (trees ts : List Typed) (u : Typed) → In trees u → In (entered trees ts) u
entered_in trees ts u m = let (new, e) = entered_behind trees ts in subst (λ l. In l u) (sym e) (Memᴰ.append_left new m)

pub enter_in : (trees : List Typed) (t : Typed) → In (enter trees t) t
enter_in trees t = elim (in? trees t) [
  | inl m ↦ subst (λ l. In l t) (sym (enter_old trees t m)) m
  | inr n ↦ subst (λ l. In l t) (sym (enter_new trees t n)) (Memᴰ.append_right trees (Memᴰ.head refl))
]

pub grown_enter : (trees : List Typed) (t : Typed) → Grown trees → PartsIn trees t → Grown (enter trees t)
grown_enter trees t g p = elim (in? trees t) [
  | inl m ↦ subst Grown (sym (enter_old trees t m)) g
  | inr n ↦ more trees t g p n (enter_new trees t n)
]

-- ---- a message with all that it completes

pub completed_one : (trees : List Typed) (g : One) (t : Typed) → entered trees (completed (one g t)) ≡ enter (entered trees (completed t)) (one g t)
unfolding completed
completed_one trees g t = entered_append trees (completed t) (one g t ∷ []) ∙ entered_one (entered trees (completed t)) (one g t)

pub completed_two : (trees : List Typed) (h : Two) (t u : Typed) → entered trees (completed (two h t u)) ≡ enter (entered (entered trees (completed t)) (completed u)) (two h t u)
unfolding completed
completed_two trees h t u =
    entered_append trees (completed t) (completed u ++ (two h t u ∷ []))
    ∙ (entered_append (entered trees (completed t)) (completed u) (two h t u ∷ []) ∙ entered_one (entered (entered trees (completed t)) (completed u)) (two h t u))

-- Its messages are none twice, parts first, and it is among them.
pub grown_completed : (t : Typed) (trees : List Typed) → Grown trees → Grown (entered trees (completed t)) × In (entered trees (completed t)) t
unfolding completed entered
grown_completed (name n) trees g = (grown_enter trees (name n) g tt, enter_in trees (name n))
grown_completed (variable n) trees g = (grown_enter trees (variable n) g tt, enter_in trees (variable n))
grown_completed (one k t) trees g =
    let (h, m) = grown_completed t trees g in
    let now = entered trees (completed t) in
    (subst Grown (sym (completed_one trees k t)) (grown_enter now (one k t) h m), subst (λ l. In l (one k t)) (sym (completed_one trees k t)) (enter_in now (one k t)))
grown_completed (two k t u) trees g =
    let (h, m) = grown_completed t trees g in
    let (i, n) = grown_completed u (entered trees (completed t)) h in
    let now = entered (entered trees (completed t)) (completed u) in (
      subst Grown (sym (completed_two trees k t u)) (grown_enter now (two k t u) i (entered_in (entered trees (completed t)) (completed u) t m, n)),
      subst (λ l. In l (two k t u)) (sym (completed_two trees k t u)) (enter_in now (two k t u)),
    )

-- ---- the messages of entries

pub completions_append : (es fs : List Entry) → completions (es ++ fs) ≡ completions es ++ completions fs
unfolding completions
completions_append [] fs = refl
completions_append (e ∷ es) fs = ap (λ l. completed (tree_of e) ++ l) (completions_append es fs) ∙ sym (append_assoc (completed (tree_of e)) (completions es) (completions fs))

-- One entry more.
pub trees_snoc : (es : List Entry) (e : Entry) → trees_of (es ++ (e ∷ [])) ≡ entered (trees_of es) (completed (tree_of e))
unfolding completions
trees_snoc es e =
    ap (entered []) (completions_append es (e ∷ []) ∙ ap (λ l. completions es ++ l) (append-nil (completed (tree_of e)))) ∙ entered_append [] (completions es) (completed (tree_of e))

entered_all : (es : List Entry) (trees : List Typed) → Grown trees → Grown (entered trees (completions es)) × ((e : Entry) → Memᴰ e es → In (entered trees (completions es)) (tree_of e))
unfolding completions entered
entered_all [] trees g = (g, λ e m. absurd (Memᴰ.not-nil m))
entered_all (f ∷ es) trees g =
    let (h, m) = grown_completed (tree_of f) trees g in
    let (i, all) = entered_all es (entered trees (completed (tree_of f))) h in
    let z = entered_append trees (completed (tree_of f)) (completions es) in (
      subst Grown (sym z) i,
      λ e n. subst (λ l. In l (tree_of e)) (sym z) (elim (Memᴰ.cases_cons n) [
        | inl k ↦ subst (λ x. In (entered (entered trees (completed (tree_of f))) (completions es)) (tree_of x)) (sym k) (entered_in (entered trees (completed (tree_of f))) (completions es) (tree_of f) m)
        | inr k ↦ all e k
      ]),
    )

pub grown_trees : (es : List Entry) → Grown (trees_of es)
grown_trees es = (entered_all es [] none).0

pub tree_in : (es : List Entry) (e : Entry) → Memᴰ e es → In (trees_of es) (tree_of e)
tree_in es e m = (entered_all es [] none).1 e m
