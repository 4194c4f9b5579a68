-- Ways down through cells that are not built: one step, and the whole way.
use mathlib.Core.Path.{◌≡◌, refl, sym, ◌∙◌, ap, subst}
use mathlib.Core.Logic.{◌⊎◌, inl, inr}
use mathlib.Core.List.{List}
use Prim.Native.Nat.{ℕ, ◌≤◌, ◌<◌}
use native.Mathlib.Omega.{arith}
use lib.ListN.{length, set, length-set}
use Rattle.model.specs.Message.{App}
use Rattle.model.specs.Case.{Cell, AT, VA, ONE, TWO, Table, Part, in_arg, in_left, in_right}
use Rattle.model.specs.Stored.{table_in}
use Rattle.theory.specs.Cells.{TableWords, Composes, Makes, class_at, On}
use Rattle.theory.proofs.MarkRows.{set_kept, set_on, set_cases}
use Rattle.classes.specs.Kept.{Kept}
use Rattle.knowledge.specs.Sweeps.{left_part, right_part}
use Rattle.knowledge.proofs.ByKind.{left_low, right_low}
use Rattle.wants.specs.Starts.{EndsAt}
use Rattle.granting.specs.Line.{Whole, Lacking, Below, Walk, LineRow}

-- ---- one step

-- The first part of a cell is one of its parts, if it has any; and so is the second.
left_part_lem : {k : Cell} {d : ℕ} (c : ℕ) → Part k d → Part k (left_part k c)
left_part_lem c in_arg = in_arg
left_part_lem c in_left = in_left
left_part_lem c in_right = in_left

right_part_lem : {k : Cell} {d : ℕ} (c : ℕ) → Part k d → Part k (right_part k c)
right_part_lem c in_arg = in_arg
right_part_lem c in_left = in_right
right_part_lem c in_right = in_right

-- A cell is made of them, or has none.
ends_made : (k : Cell) (c : ℕ) → Makes k (left_part k c) (right_part k c) ⊎ (left_part k c ≡ c)
ends_made (AT n) c = inr refl
ends_made VA c = inr refl
ends_made (ONE (App f) a) c = inl (Makes.ones Composes.apps)
ends_made (TWO h l r) c = inl Makes.twos

module _ {n : ℕ} {words rep : List ℕ} (w : TableWords n words) (k : Kept n (table_in words) rep) {a b : ℕ} (c : ℕ) (e : EndsAt (table_in words) rep c a b) where
  abbrev T : Table
  T = table_in words

  -- Their classes are named by cells of the table.
  pub left_inside : c < n → a < n
  left_inside h = subst (λ z. z < n) (sym e.left) (k.inside (left_part (T c) c) (omega (arith, left_low (T c) c (w.lower c))))

  pub right_inside : c < n → b < n
  right_inside h = subst (λ z. z < n) (sym e.right) (k.inside (right_part (T c) c) (omega (arith, right_low (T c) c (w.lower c))))

  module _ {builts : List ℕ} (l : Lacking n rep builts c) where
    -- Not both are built.
    pub left_unbuilt : Whole T rep builts → On builts b → On builts a → ⊥
    left_unbuilt whole y x = elim (ends_made (T c) c) [
      | inl m ↦ l.unbuilt (whole c (left_part (T c) c) (right_part (T c) c) l.stands m (subst (On builts) e.left x) (subst (On builts) e.right y))
      | inr i ↦ l.unbuilt (subst (On builts) (e.left ∙ (ap (class_at rep) i ∙ l.stands)) x)
    ]

    pub below_left : (On builts a → ⊥) → Below T n rep builts c a
    below_left u = record {
      lacking = record { inside = left_inside l.inside; stands = subst (λ z. class_at rep z ≡ z) (sym e.left) (k.reps.idem (left_part (T c) c)); unbuilt = u };
      part = λ d q. (left_part (T c) c, left_part_lem c q, e.left);
    }

    pub below_right : (On builts b → ⊥) → Below T n rep builts c b
    below_right u = record {
      lacking = record { inside = right_inside l.inside; stands = subst (λ z. class_at rep z ≡ z) (sym e.right) (k.reps.idem (right_part (T c) c)); unbuilt = u };
      part = λ d q. (right_part (T c) c, right_part_lem c q, e.right);
    }

-- ---- the way

module _ {T : Table} {rep builts : List ℕ} where
  pub walk_none : {m : List ℕ} → length m ≡ 129 → ((c : ℕ) → On m c → ⊥) → (x : ℕ) → Walk T rep builts m x
  walk_none l none x = record { long = l; unbuilt = λ c o. absurd (none c o); part = λ c d o. absurd (none c o) }

  module _ {n : ℕ} {m : List ℕ} {c x : ℕ} (h : c ≤ 128) (w : Walk T rep builts m c) (l : Lacking n rep builts c) (b : Below T n rep builts c x) where
    low : c < length m
    low = omega (arith, w.long)

    pub walk_next : Walk T rep builts (set m c 1) x
    walk_next = record {
      long = length-set m c 1 ∙ w.long;
      unbuilt = λ d o. elim (set_cases m c d o) [ inl i ↦ subst (λ z. On builts z → ⊥) (sym i) l.unbuilt | inr o' ↦ w.unbuilt d o' ];
      part = λ d y o q. elim (set_cases m c d o) [
        | inl i ↦ (let (y', q', j) = b.part y (subst (λ z. Part (T z) y) i q) in (y', subst (λ z. Part (T z) y') (sym i) q', inr j))
        | inr o' ↦ (let (y', q', j) = w.part d y o' q in (y', q', inl (elim j [ inl u ↦ set_kept m c low (class_at rep y') u | inr u ↦ subst (On (set m c 1)) u (set_on m c low) ])))
      ];
    }

    -- The way ends at a cell that it has.
    pub walk_ends : {goal : ℕ} → On (set m c 1) goal → On (set m c 1) x → LineRow T rep builts goal (set m c 1)
    walk_ends g o = record {
      goal = g;
      unbuilt = walk_next.unbuilt;
      part = λ d y p q. let (y', q', j) = walk_next.part d y p q in (y', q', elim j [ inl u ↦ u | inr u ↦ subst (On (set m c 1)) u o ]);
    }

    -- The goal stays in the way.
    pub goal_kept : {goal : ℕ} → On m goal ⊎ (goal ≡ c) → On (set m c 1) goal
    goal_kept (inl o) = set_kept m c low _ o
    goal_kept (inr i) = subst (On (set m c 1)) (sym i) (set_on m c low)
