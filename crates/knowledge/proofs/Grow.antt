-- How a row of marks grows.
use mathlib.Core.Path.{◌≡◌, refl, sym, ◌∙◌, ap, subst}
use mathlib.Core.Logic.{◌⊎◌, inl, inr}
use mathlib.Core.Bool.{Bool, true, false, true≢false, false≢true}
use mathlib.Core.List.{List, [], ◌∷◌}
use Prim.Native.Nat.{ℕ, zero, suc, ◌≤◌, ◌<◌}
use native.Mathlib.Omega.{arith}
use lib.Dec.{eqb}
use lib.ListN.{length, get_or, set, length-set, replicate}
use lib.Seq.{get_or-set_other, set-get_or}
use borrow.Author.Tests.{eqb-true}
use Rattle.model.proofs.Finite.{eq?}
use Rattle.model.proofs.Rows.{zeros}
use Rattle.theory.specs.Cells.{class_at, On}
use Rattle.theory.proofs.MarkRows.{on?, set_cases, set_on, set_kept}
use Rattle.knowledge.specs.Knowledge.{ClassRow, MarkRow, Learns}
use Rattle.knowledge.specs.Sweeps.{missing, Grown, OwnMarks}

-- ---- one mark

pub missing_fewer : (m : List ℕ) (j : ℕ) → j < length m → (On m j → ⊥) → missing (set m j 1) < missing m
missing_fewer [] j h e = absurd (omega arith)
missing_fewer (x ∷ xs) zero h e = go (eqb x 1) refl
  where
    go : (b : Bool) → eqb x 1 ≡ b → missing (set (x ∷ xs) 0 1) < missing (x ∷ xs)
    go true q = absurd (e (eqb-true _ _ q))
    go false q = rw q (omega arith)
missing_fewer (x ∷ xs) (suc j) h e = omega (arith, missing_fewer xs j (omega arith) e)

missing_down : (m : List ℕ) (j : ℕ) → j < length m → missing (set m j 1) ≤ missing m
missing_down m j h = elim (on? m j) [
  | inl e ↦ omega (arith, ap missing (ap (set m j) (sym e) ∙ set-get_or m j 0))
  | inr n ↦ omega (arith, missing_fewer m j h n)
]

pub set_bits : (m : List ℕ) (j i : ℕ) → j < length m → get_or m i 0 ≤ 1 → get_or (set m j 1) i 0 ≤ 1
set_bits m j i h b = elim (eq? i j) [
  | inl q ↦ subst (λ k. get_or (set m j 1) k 0 ≤ 1) (sym q) (omega (arith, set_on m j h))
  | inr n ↦ omega (arith, get_or-set_other m j i 1 0 n)
]

pub marked_set : {rep m : List ℕ} {j : ℕ} → j < length m → class_at rep j ≡ j → MarkRow rep m → MarkRow rep (set m j 1)
marked_set {rep} {m} {j} h s w = record {
  bits = λ c. set_bits m j c h (w.bits c);
  stand = λ c e. elim (set_cases m j c e) [ inl q ↦ subst (λ k. class_at rep k ≡ k) (sym q) s | inr o ↦ w.stand c o ];
}

-- Each cell is marked or not.
pub marked? : {rep marks : List ℕ} → MarkRow rep marks → (c : ℕ) → On marks c ⊎ (get_or marks c 0 ≡ 0)
marked? {rep} {marks} w c = elim (on? marks c) [ inl o ↦ inl o | inr n ↦ inr (omega (arith, w.bits c, n)) ]

-- ---- the row of a sweep

pub grown_none : {rep m : List ℕ} → length m ≡ 129 → MarkRow rep m → Grown rep m m false
grown_none l w = record { long = l; marked = w; kept = λ c e. e; same = λ e. refl; down = omega arith; moved = λ e. absurd (false≢true e) }

module _ {rep m r : List ℕ} {ch : Bool} (w : Grown rep m r ch) where
  pub grown_mark : (j : ℕ) → j ≤ 128 → class_at rep j ≡ j → (On r j → ⊥) → Grown rep m (set r j 1) true
  grown_mark j h s n =
      let i : j < length r = omega (arith, w.long) in
      record {
        long = length-set r j 1 ∙ w.long;
        marked = marked_set i s w.marked;
        kept = λ c e. set_kept r j i c (w.kept c e);
        same = λ e. absurd (true≢false e);
        down = omega (arith, missing_down r j i, w.down);
        moved = λ e. omega (arith, missing_fewer r j i n, w.down);
      }

  -- Two marks of which not both were there.
  pub grown_marks : (a b : ℕ) → a ≤ 128 → b ≤ 128 → class_at rep a ≡ a → class_at rep b ≡ b → (On r a → On r b → ⊥) → Grown rep m (set (set r a 1) b 1) true
  grown_marks a b h g s t n =
      let i : a < length r = omega (arith, w.long) in
      let l : length (set r a 1) ≡ 129 = length-set r a 1 ∙ w.long in
      let j : b < length (set r a 1) = omega (arith, l) in
      record {
        long = length-set (set r a 1) b 1 ∙ l;
        marked = marked_set j t (marked_set i s w.marked);
        kept = λ c e. set_kept (set r a 1) b j c (set_kept r a i c (w.kept c e));
        same = λ e. absurd (true≢false e);
        down = omega (arith, missing_down (set r a 1) b j, missing_down r a i, w.down);
        moved = λ e. elim (on? r a) [
          | inr o ↦ omega (arith, missing_down (set r a 1) b j, missing_fewer r a i o, w.down)
          | inl o ↦ omega (arith, missing_fewer (set r a 1) b j (new o), missing_down r a i, w.down)
        ];
      }
    where
      new : On r a → On (set r a 1) b → ⊥
      new o e = n o (subst (λ x. On x b) (ap (set r a) (sym o) ∙ set-get_or r a 0) e)

-- ---- the row to start from

abbrev pub no_marks : List ℕ
no_marks = replicate 129 0

pub none_on : (c : ℕ) → On no_marks c → ⊥
none_on c e = omega (arith, zeros 129 c, e)

pub none_marked : {rep : List ℕ} → MarkRow rep no_marks
none_marked = record { bits = λ c. omega (arith, zeros 129 c); stand = λ c e. absurd (none_on c e) }

pub own_none : {n : ℕ} {rep : List ℕ} {z : ℕ} → z ≡ class_at rep 128 → z < n → OwnMarks n rep no_marks
own_none e h = record { marked = none_marked; own = λ g. absurd (omega arith); only = λ c o. absurd (none_on c o) }

pub own_one : {n : ℕ} {rep : List ℕ} {z : ℕ} → ClassRow n rep → z ≡ class_at rep 128 → n ≤ z → OwnMarks n rep (set no_marks z 1)
own_one {n} {rep} {z} w e h =
    let i : z < length no_marks = omega (arith, w.low 128) in
    record {
      marked = marked_set i (ap (class_at rep) e ∙ (w.idem 128 ∙ sym e)) none_marked;
      own = λ g. subst (On (set no_marks z 1)) e (set_on no_marks z i);
      only = λ c o. elim (set_cases no_marks z c o) [ inl q ↦ (q ∙ e, omega arith) | inr o' ↦ absurd (none_on c o') ];
    }

-- ---- one learnt cell

pub learns : {n : ℕ} {rep m : List ℕ} {c z : ℕ} → ClassRow n rep → length m ≡ 129 → MarkRow rep m → z ≡ class_at rep c → Learns rep m c (set m z 1)
learns {n} {rep} {m} {c} {z} w l k e =
    let i : z < length m = omega (arith, w.low c) in
    record {
      marked = marked_set i (ap (class_at rep) e ∙ (w.idem c ∙ sym e)) k;
      kept = λ d o. set_kept m z i d o;
      learnt = subst (On (set m z 1)) e (set_on m z i);
      only = λ d o. elim (set_cases m z d o) [ inl q ↦ inr (q ∙ e) | inr o' ↦ inl o' ];
    }
