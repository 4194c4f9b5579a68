-- The occurs check: marks that grow upwards from cells without parts, and what it means that all cells, or not all, are marked.
use mathlib.Core.Path.{◌≡◌, refl, sym, ◌∙◌, ap, subst}
use mathlib.Core.Bool.{Bool, true, false, cond, not, true≢false}
use mathlib.Core.List.{List}
use mathlib.Core.Logic.{inl, inr}
use Prim.Native.Nat.{ℕ, ◌+◌, ◌≤◌, ◌<◌, min}
use native.Mathlib.Omega.{arith}
use native.Mathlib.Decide.{dec_lt}
use native.Mathlib.Nat.{min-eq_left, min-eq_right}
use lib.Dec.{eqb}
use lib.ListN.{length, get_or, set, length-set, replicate, length-replicate}
use borrow.Author.Count.{below_more}
use borrow.Author.Tests.{eq-eqb, ne_eqb}
use Rattle.model.specs.Case.{Cell, AT, VA, ONE, TWO, Table, Part, in_arg, in_left, in_right}
use Rattle.model.specs.Stored.{table_in}
use Rattle.model.proofs.Read.{clash}
use Rattle.model.proofs.Rows.{zeros}
use Rattle.theory.specs.Cells.{TableWords, On, class_at}
use Rattle.theory.proofs.Answers.{round_no}
use Rattle.theory.proofs.Classes.{all_done}
use Rattle.theory.proofs.Rows.{rows_part}
use Rattle.cells.specs.Cells.{parts_of}
use Rattle.cells.specs.declared.Parts.TheVariants as parts
use Rattle.classes.specs.Kept.{Kept, Finite, Unmet}
use Rattle.classes.specs.Peel.{Done, class_table, Peeled, Fresh, undone, Peels}
use Rattle.classes.proofs.Count.{count_lt}
use Rattle.theory.proofs.MarkRows.{set_cases, set_on, set_kept}

-- ---- the parts of a cell

pub part_arg : (k : Cell) (a : ℕ) → parts.One a ≡ parts_of k → Part k a
part_arg (AT n) a e = clash (cc)
part_arg VA a e = clash (cc)
part_arg (ONE g b) a e = subst (λ x. Part (ONE g b) x) (cc) in_arg
part_arg (TWO h l r) a e = clash (cc)

pub part_left : (k : Cell) (l r : ℕ) → parts.Two l r ≡ parts_of k → Part k l
part_left (AT n) l r e = clash (cc)
part_left VA l r e = clash (cc)
part_left (ONE g a) l r e = clash (cc)
part_left (TWO h a b) l r e = subst (λ x. Part (TWO h a b) x) (cc) in_left

pub part_right : (k : Cell) (l r : ℕ) → parts.Two l r ≡ parts_of k → Part k r
part_right (AT n) l r e = clash (cc)
part_right VA l r e = clash (cc)
part_right (ONE g a) l r e = clash (cc)
part_right (TWO h a b) l r e = subst (λ x. Part (TWO h a b) x) (cc) in_right

-- ---- one more mark
unmarked : (l : List ℕ) (x : ℕ) → (On l x → ⊥) → not (eqb (get_or l x 0) 1) ≡ true
unmarked l x ne = rw (ne_eqb (get_or l x 0) 1 ne)

marked : (l : List ℕ) (x : ℕ) → On l x → not (eqb (get_or l x 0) 1) ≡ false
marked l x o = rw (eq-eqb (get_or l x 0) 1 o)

module _ (marks : List ℕ) (c : ℕ) (h : c < length marks) where
  abbrev next : List ℕ
  next = set marks c 1

  pub undone_less : (On marks c → ⊥) → c < 129 → undone next < undone marks
  undone_less fresh small =
      count_lt (λ x. not (eqb (get_or marks x 0) 1)) (λ x. not (eqb (get_or next x 0) 1))
      (λ x e. unmarked marks x (λ o. true≢false (sym e ∙ marked next x (set_kept marks c h x o))))
      c (unmarked marks c fresh) (marked next c (set_on marks c h)) 129 small

  module _ (S : Table) (P : Peeled S marks) (fresh : On marks c → ⊥) (parts : Done marks (S c)) where
    rank : ℕ → ℕ
    rank x = cond (eqb x c) P.top (P.rank x)

    rank_here : (x : ℕ) → x ≡ c → rank x ≡ P.top
    unfolding rank
    rank_here x e = rw (eq-eqb x c e)

    rank_old : (x : ℕ) → On marks x → rank x ≡ P.rank x
    unfolding rank
    rank_old x o = rw (ne_eqb x c (λ e. fresh (subst (On marks) e o)))

    below : (x : ℕ) → On next x → rank x < P.top + 1
    below x o = elim (set_cases marks c x o) [
      | inl e ↦ omega (arith, rank_here x e)
      | inr i ↦ omega (arith, rank_old x i, P.below x i)
    ]

    lower : (x d : ℕ) → On next x → Part (S x) d → On next d × (rank d < rank x)
    lower x d o p = elim (set_cases marks c x o) [
      | inl e ↦ (let i : On marks d = parts d (subst (λ y. Part (S y) d) e p) in
          (set_kept marks c h d i, omega (arith, rank_here x e, rank_old d i, P.below d i)))
      | inr i ↦ (let (j, l) = P.lower x d i p in (set_kept marks c h d j, omega (arith, rank_old x i, rank_old d j)))
    ]

    pub peeled_more : Peeled S next
    peeled_more = record { long = length-set marks c 1 ∙ P.long; rank = rank; top = P.top + 1; below = below; lower = lower }

-- At the start nothing is marked.
pub peeled_none : (S : Table) → Peeled S (replicate 129 0)
peeled_none S =
    record {
      long = length-replicate {A = ℕ} 129 0;
      rank = λ c. 0;
      top = 0;
      below = λ c o. absurd (omega (arith, zeros 129 c));
      lower = λ c d o p. absurd (omega (arith, zeros 129 c));
    }

-- ---- the turns of a sweep
module _ (S : Table) (marks : List ℕ) where
  module _ (c : ℕ) (out : List ℕ) (changed : Bool) (w : Peels S marks c out changed) (small : c < 129) where
    pub peels_mark : Fresh S out c true → Peels S marks (c + 1) (set out c 1) true
    peels_mark f =
        let h : c < length out = omega (arith, w.peeled.long) in
        let (new, parts) = f.yes refl in
        record {
          peeled = peeled_more out c h S w.peeled new parts;
          most = omega (arith, undone_less out c h new small, w.most);
          fewer = λ _. omega (arith, undone_less out c h new small, w.most);
          shut = λ e. absurd (true≢false e);
        }

    pub peels_skip : Fresh S out c false → Peels S marks (c + 1) out changed
    peels_skip f =
        record {
          peeled = w.peeled;
          most = w.most;
          fewer = w.fewer;
          shut = λ e. below_more (λ (i : ℕ). Done out (S i) → On out i) c (w.shut e) (f.no refl);
        }

-- ---- what the marks say of the classes
module _ {n : ℕ} {words rep : List ℕ} (w : TableWords n words) (K : Kept n (table_in words) rep) (marks : List ℕ) where
  abbrev S : Table
  S = class_table (table_in words) rep

  -- The cells beyond the table's are as the first of them.
  class_min : (c : ℕ) → class_at rep c ≡ class_at rep (min c n)
  class_min c = elim (dec_lt c n) [
    | yes h ↦ ap (class_at rep) (sym (min-eq_left (le h)))
    | no h ↦ K.names c n 0 (w.beyond c (omega arith)) (w.beyond n (omega arith)) ∙ ap (class_at rep) (sym (min-eq_right (omega arith)))
  ]
    where
      le : c < n → c ≤ n
      le h = omega arith

  part_min : (c d : ℕ) → Part (S c) d → Part (S (min c n)) d
  part_min c d = subst (λ k. Part (table_in words k) d) (class_min c)

  part_low : (c d : ℕ) → Part (S c) d → min d n ≡ d
  part_low c d p = let (h, i) = rows_part w (class_at rep c) d p in min-eq_left (omega arith)

  pub peeled_finite : Peeled S marks → ((c : ℕ) → c < n + 1 → On marks c) → Finite (table_in words) (class_at rep)
  peeled_finite P all = (
    λ c. P.rank (min c n),
    λ c d p. subst (λ x. P.rank x < P.rank (min c n)) (sym (part_low c d p))
        (P.lower (min c n) d (all (min c n) (omega arith)) (part_min c d p)).1,
  )

  pub peeled_round : ((c : ℕ) → c < n + 1 → Done marks (S c) → On marks c) → (c : ℕ) → c < n + 1 → (On marks c → ⊥) → Unmet (table_in words) (class_at rep)
  peeled_round shut c h no-c =
      round_no (table_in words) (class_at rep) (λ c. On marks (min c n))
      (λ c parts. shut (min c n) (omega arith) (λ d p. subst (On marks) (part_low (min c n) d p) (parts d (subst (λ k. Part (table_in words k) d) (sym (class_min c)) p))))
      c (λ o. no-c (subst (On marks) (min-eq_left (omega arith)) o))

  -- Such classes come round.
  pub peeled_endless : ((c : ℕ) → c < n + 1 → Done marks (S c) → On marks c) → (c : ℕ) → c < n + 1 → (On marks c → ⊥) → Finite (table_in words) (class_at rep) → ⊥
  peeled_endless shut c h no-c (rank, ranked) =
      no-c (subst (On marks) (min-eq_left (omega arith)) (all_done S rank ranked (λ c. On marks (min c n))
      (λ c parts. shut (min c n) (omega arith) (λ d p. subst (On marks) (part_low (min c n) d p) (parts d (subst (λ k. Part (table_in words k) d) (sym (class_min c)) p)))) c))
