-- What the contracts that other crates rely on settle: two replies for one input are equal, or equal in what is said.
use mathlib.Core.Path.{◌≡◌, refl, sym, ◌∙◌, ap}
use mathlib.Core.Logic.{inl, inr}
use mathlib.Core.Bool.{Bool, true, false}
use mathlib.Core.List.{List, [], ◌∷◌}
use Prim.Native.Nat.{ℕ, suc, ◌≤◌, ◌<◌, min}
use native.Mathlib.Omega.{arith}
use native.Mathlib.Decide.{dec_lt}
use lib.ListN.{length, get_or}
use Rattle.model.specs.Message.{Message, atom}
use Rattle.model.specs.Case.{Table, Lower}
use Rattle.model.proofs.Read.{strong, var?}
use Rattle.theory.specs.Cells.{class_at}
use Rattle.theory.specs.Classes.{Alike, Sat}
use Rattle.theory.proofs.Classes.{alike_parts, alike_solid}
use Rattle.std.specs.Prelude.{Option, Some, None, is_some}
use Rattle.classes.specs.Kept.{Finite, Joined}
use Rattle.classes.specs.Twins.{First, Start}
use Rattle.classes.specs.Settle.{Unifies}
use Rattle.classes.proofs.SolvedLaws.{solved_met}

-- Two rows of one length with the same bytes are equal.
pub row_ext : (xs ys : List ℕ) → length xs ≡ length ys → ((i : ℕ) → i < length xs → get_or xs i 0 ≡ get_or ys i 0) → xs ≡ ys
row_ext [] [] e h = refl
row_ext [] (y ∷ ys) e h = absurd (omega arith)
row_ext (x ∷ xs) [] e h = absurd (omega arith)
row_ext (x ∷ xs) (y ∷ ys) e h =
    let i : x ≡ y = h 0 (omega arith) in
    let j : xs ≡ ys = row_ext xs ys (omega arith) (λ i k. h (suc i) (omega arith)) in
    cc

-- Two class arrays with the same classes are equal.
pub class_ext : (rep rep' : List ℕ) → length rep ≡ 129 → length rep' ≡ 129 → ((c : ℕ) → class_at rep c ≡ class_at rep' c) → rep ≡ rep'
class_ext rep rep' l l' h =
    row_ext rep rep' (l ∙ sym l') (λ i k. let e : min i 128 ≡ i = omega arith in
    ap (λ j. get_or rep j 0) (sym e) ∙ (h i ∙ ap (λ j. get_or rep' j 0) e))

-- ---- `start`
module _ (T : Table) (low : Lower T) where
  -- Cells alike by f are alike by g, if these agree below c.
  moved : (f g : ℕ → ℕ) (c a : ℕ) → ((d : ℕ) → d < c → f d ≡ g d) → a ≤ c → Alike f (T c) (T a) → Alike g (T c) (T a)
  moved f g c a ih h = alike_parts (λ d d' q q' e.
      let k : d' < c = omega (arith, low a d' q') in
      sym (ih d (low c d q)) ∙ (e ∙ ih d' k))

  firsts_one : (f g : ℕ → ℕ) → ((c : ℕ) → First T f c) → ((c : ℕ) → First T g c) → (c : ℕ) → f c ≡ g c
  firsts_one f g p q = strong (λ c. f c ≡ g c) (λ c ih. elim (var? (T c)) [
    | inl v ↦ (p c).alone v ∙ sym ((q c).alone v)
    | inr s ↦ elim (dec_lt (f c) (g c)) [
      | yes h ↦ absurd ((q c).least (f c) h (moved f g c (f c) ih (p c).low ((p c).same s)))
      | no h ↦ elim (dec_lt (g c) (f c)) [
        | yes k ↦ absurd ((p c).least (g c) k (moved g f c (g c) (λ d l. sym (ih d l)) (q c).low ((q c).same s)))
        | no k ↦ omega arith
      ]
    ]
  ])

  firsts : (n : ℕ) (rep : List ℕ) → Start n T rep → (c : ℕ) → First T (class_at rep) c
  firsts n rep w c =
      record {
        low = elim (var? (T c)) [ inl v ↦ omega (arith, w.alone c v) | inr s ↦ w.solved.kept.reps.lowest c s ];
        alone = w.alone c;
        same = w.solved.closed c;
        least = λ d h a. absurd (omega (arith, w.up c d a, w.solved.kept.reps.lowest d (alike_solid a)));
      }

  pub start_settled : (n : ℕ) (rep rep' : List ℕ) → Start n T rep → Start n T rep' → rep ≡ rep'
  start_settled n rep rep' w w' =
      class_ext rep rep' w.solved.kept.long w'.solved.kept.long (firsts_one (class_at rep) (class_at rep') (firsts n rep w) (firsts n rep' w'))

-- ---- `acyclic`
pub acyclic_settled : (T : Table) (rep : List ℕ) (r r' : Bool) → (r ≡ true → Finite T (class_at rep)) → (r ≡ false → Finite T (class_at rep) → ⊥) →
    (r' ≡ true → Finite T (class_at rep)) → (r' ≡ false → Finite T (class_at rep) → ⊥) → r ≡ r'
acyclic_settled T rep true true y n y' n' = refl
acyclic_settled T rep true false y n y' n' = absurd (n' refl (y refl))
acyclic_settled T rep false true y n y' n' = absurd (n refl (y' refl))
acyclic_settled T rep false false y n y' n' = refl

-- ---- `join`: which cells are of one class
pub join_settled : (n : ℕ) (T : Table) (rep : List ℕ) (a b : ℕ) (out out' : List ℕ) → Joined n T rep a b out → Joined n T rep a b out' →
    (c d : ℕ) → class_at out c ≡ class_at out d → class_at out' c ≡ class_at out' d
join_settled n T rep a b out out' w w' c d e =
    let m : ℕ → Message = λ x. atom (class_at out' x) in
    let s : Sat (class_at out) m = (w.sat m).1 ((w'.sat m).0 (λ x. ap atom (sym (w'.kept.reps.idem x)))) in
    let i : atom (class_at out' c) ≡ atom (class_at out' d) = s c ∙ (ap m e ∙ sym (s d)) in
    cc

-- ---- `unify`: whether there are messages
module _ (n : ℕ) (T : Table) (rep : List ℕ) (a b : ℕ) where
  both : (out : List ℕ) → Unifies n T rep a b (Some out) → Unifies n T rep a b None → ⊥
  both out w never =
      let (m, g, reads, sat) = solved_met n T out w.solved (λ _. atom 0) in
      let (s, e) = (w.sat m reads).1 sat in
      never m reads s e

  pub unify_settled : (r r' : Option (List ℕ)) → Unifies n T rep a b r → Unifies n T rep a b r' → is_some r ≡ is_some r'
  unify_settled (Some out) (Some out') w w' = refl
  unify_settled (Some out) None w w' = absurd (both out w w')
  unify_settled None (Some out') w w' = absurd (both out' w' w)
  unify_settled None None w w' = refl
