-- Sweeps that spread marks down to parts and up from them, and that marks at which they change nothing are closed.
use mathlib.Core.Path.{◌≡◌, refl, sym, subst}
use mathlib.Core.Logic.{◌⊎◌, inl, inr}
use mathlib.Core.Bool.{Bool, true, false, true≢false}
use mathlib.Core.List.{List}
use Prim.Native.Nat.{ℕ, ◌+◌, ◌≤◌}
use native.Mathlib.Omega.{arith}
use lib.ListN.{get_or, set}
use borrow.Author.Count.{below_more}
use Rattle.model.specs.Case.{Cell, Table, Part, in_arg, in_left, in_right}
use Rattle.model.specs.Stored.{table_in}
use Rattle.model.proofs.Finite.{eq?}
use Rattle.theory.specs.Cells.{TableWords, class_at, On}
use Rattle.theory.proofs.Rows.{rows_part}
use Rattle.knowledge.specs.Knowledge.{ClassRow}
use Rattle.knowledge.specs.Sweeps.{left_part, right_part, left_class, right_class, Grown}
use Rattle.theory.proofs.MarkRows.{on?}
use Rattle.knowledge.proofs.Grow.{grown_mark}
use Rattle.wants.specs.Starts.{EndsAt, Wider}
use Rattle.wants.specs.Spread.{Reaches, Lowering, Lowered, Raises, Raising, Raised}

pub grown_wider : {rep m₀ m r : List ℕ} {ch : Bool} → Wider rep m₀ m → Grown rep m r ch → Wider rep m₀ r
grown_wider x g = record { long = g.long; marked = g.marked; kept = λ c o. g.kept c (x.kept c o) }

part_side : {k : Cell} {d : ℕ} (c : ℕ) → Part k d → (left_part k c ≡ d) ⊎ (right_part k c ≡ d)
part_side c in_arg = inl refl
part_side c in_left = inl refl
part_side c in_right = inr refl

-- ---- down

-- A sweep that has passed the cells above c, and of c the first part.
pub record Half (T : Table) (rep only : List ℕ) (flag : ℕ) (m r : List ℕ) (ch : Bool) (n c : ℕ) : Type 0 where
  pub sweep : Lowering T rep only flag m r ch n (c + 1)
  pub left : ch ≡ false → Reaches r only flag c (left_class T rep c) → ⊥

module _ {T : Table} {n : ℕ} {rep : List ℕ} (row : ClassRow n rep) {only : List ℕ} {flag : ℕ} {m r : List ℕ} {ch : Bool} {c a b : ℕ} (e : EndsAt T rep c a b) where
  -- A sweep that has passed the cells above c goes on to its first part,
  module _ {u : ℕ} (x : Lowering T rep only flag m r ch n u) (next : u ≡ c + 1) where
    pub half_mark : Reaches r only flag c a → Half T rep only flag m (set r a 1) true n c
    half_mark y = record {
      sweep = record {
        grown = grown_mark x.grown a e.left_low (subst (λ z. class_at rep z ≡ z) (sym e.left) (row.idem (left_part (T c) c))) y.new;
        still = λ i. absurd (true≢false i);
      };
      left = λ i. absurd (true≢false i);
    }

    pub half_skip : (Reaches r only flag c a → ⊥) → Half T rep only flag m r ch n c
    half_skip none = record { sweep = subst (Lowering T rep only flag m r ch n) next x; left = λ i y. none (subst (Reaches r only flag c) (sym e.left) y) }

  -- and then to its second.
  module _ (x : Half T rep only flag m r ch n c) where
    pub lowering_mark : Reaches r only flag c b → Lowering T rep only flag m (set r b 1) true n c
    lowering_mark y = record {
      grown = grown_mark x.sweep.grown b e.right_low (subst (λ z. class_at rep z ≡ z) (sym e.right) (row.idem (right_part (T c) c))) y.new;
      still = λ i. absurd (true≢false i);
    }

    pub lowering_skip : (Reaches r only flag c b → ⊥) → Lowering T rep only flag m r ch n c
    lowering_skip none = record {
      grown = x.sweep.grown;
      still = λ i d h g. elim (eq? d c) [
        | inl q ↦ subst (λ z. (Reaches r only flag z (left_class T rep z) → ⊥) × (Reaches r only flag z (right_class T rep z) → ⊥)) (sym q)
            (x.left i, λ y. none (subst (Reaches r only flag c) (sym e.right) y))
        | inr o ↦ x.sweep.still i d (omega arith) g
      ];
    }

module _ {n : ℕ} {words rep : List ℕ} (w : TableWords n words) (only : List ℕ) (flag : ℕ) where
  pub lowered_still : {m₀ m r : List ℕ} {ch : Bool} → Wider rep m₀ m → Lowering (table_in words) rep only flag m r ch n 0 → ch ≡ false → Lowered (table_in words) rep only flag m₀ r
  lowered_still {m₀} {m} {r} x y z = record { wider = grown_wider x y.grown; parts = parts }
    where
      T : Table
      T = table_in words

      reach : (c d : ℕ) → On r c → get_or only d 0 ≡ flag → (Reaches r only flag c d → ⊥) → On r d
      reach c d o f none = elim (on? r d) [ inl i ↦ i | inr i ↦ absurd (none (record { whole = o; fit = f; new = i })) ]

      parts : (c d : ℕ) → class_at rep c ≡ c → On r c → Part (T c) d → get_or only (class_at rep d) 0 ≡ flag → On r (class_at rep d)
      parts c d e o q f =
          let (l, k) = y.still z c (omega arith) (rows_part w c d q).0 in
          elim (part_side c q) [
            | inl i ↦ reach c (class_at rep d) o f (subst (λ z. Reaches r only flag c (class_at rep z) → ⊥) i l)
            | inr i ↦ reach c (class_at rep d) o f (subst (λ z. Reaches r only flag c (class_at rep z) → ⊥) i k)
          ]

-- ---- up

module _ {T : Table} {rep m r : List ℕ} {ch : Bool} {c : ℕ} (x : Raising T rep m r ch c) where
  pub raising_mark : c ≤ 128 → Raises T rep r c → Raising T rep m (set r c 1) true (c + 1)
  raising_mark h y = record { grown = grown_mark x.grown c h y.stands y.new; still = λ e. absurd (true≢false e) }

  pub raising_skip : (Raises T rep r c → ⊥) → Raising T rep m r ch (c + 1)
  raising_skip none = record { grown = x.grown; still = λ e. below_more (λ d. Raises T rep r d → ⊥) c (x.still e) none }

module _ {n : ℕ} {words rep : List ℕ} (w : TableWords n words) where
  pub raised_still : {m₀ m r : List ℕ} {ch : Bool} → Wider rep m₀ m → Raising (table_in words) rep m r ch n → ch ≡ false → Raised (table_in words) rep m₀ r
  raised_still {m₀} {m} {r} x y z = record { wider = grown_wider x y.grown; up = up }
    where
      T : Table
      T = table_in words

      up : (c d : ℕ) → class_at rep c ≡ c → Part (T c) d → On r (class_at rep d) → On r c
      up c d e q o = elim (on? r c) [
        | inl i ↦ i
        | inr i ↦ absurd (y.still z c (rows_part w c d q).0 (record {
          stands = e;
          new = i;
          part = elim (part_side c q) [ inl j ↦ inl (subst (λ z. On r (class_at rep z)) (sym j) o) | inr j ↦ inr (subst (λ z. On r (class_at rep z)) (sym j) o) ];
        }))
      ]
