-- What leaks at two cells, the sweeps over them, and the sets they go by.
use mathlib.Core.Path.{◌≡◌, refl, sym, ◌∙◌, subst}
use mathlib.Core.Logic.{inl, inr}
use mathlib.Core.Bool.{Bool, true, false, true≢false}
use mathlib.Core.List.{List}
use Prim.Native.Nat.{ℕ, ◌+◌, ◌≤◌, ◌<◌}
use Rattle.std.specs.Prelude.{Option, Some, None}
use Rattle.std.specs.Bool.{then_some}
use lib.ListN.{length, set}
use borrow.Author.Count.{below_more}
use Rattle.model.specs.Case.{Table}
use Rattle.model.proofs.Read.{clash}
use Rattle.theory.specs.Cells.{class_at, On}
use Rattle.theory.specs.Level.{Kin}
use Rattle.knowledge.specs.Knowledge.{ClassRow, MarkRow}
use Rattle.knowledge.specs.Sweeps.{left_part, right_part}
use Rattle.knowledge.proofs.Grow.{grown_none, grown_mark}
use Rattle.wants.specs.Starts.{EndsAt}
use Rattle.wants.specs.Sets.{HeldRow, OverRow}
use Rattle.granting.specs.Meets.{May}
use Rattle.granting.specs.Leaks.{Bright, Leaks, LeakTold, LeakingRow, Leaking, Leaked}
use Rattle.granting.proofs.KinLaws.{kin_self}

-- ---- two cells

pub leak_never : {T : Table} {rep held seens : List ℕ} {c d : ℕ} → (On seens d → May T rep c d → ⊥) → LeakTold T rep held seens c d None
leak_never none = LeakTold.nothing (λ w. none w.whole w.may)

-- What would come to light does, or the cells may not be equal.
pub leak_if : {T : Table} {rep held seens : List ℕ} {c d : ℕ} (b : Bool) (x : ℕ) → LeakTold T rep held seens c d (Some x) → (b ≡ false → On seens d → May T rep c d → ⊥) →
    LeakTold T rep held seens c d (then_some b x)
leak_if true x t none = t
leak_if false x t none = leak_never (none refl)

module _ {T : Table} {n : ℕ} {rep : List ℕ} (row : ClassRow n rep) {held seens : List ℕ} {c d : ℕ} {a b a' b' : ℕ} (e : EndsAt T rep c a b) (f : EndsAt T rep d a' b') where
  pub leak_left : Bright held seens a a' → LeakTold T rep held seens c d (Some a')
  leak_left x = LeakTold.leak f.left_low (subst (λ z. class_at rep z ≡ z) (sym f.left) (row.idem (left_part (T d) d))) x.1

  pub leak_right : Bright held seens b b' → LeakTold T rep held seens c d (Some b')
  leak_right x = LeakTold.leak f.right_low (subst (λ z. class_at rep z ≡ z) (sym f.right) (row.idem (right_part (T d) d))) x.1

  pub leak_dark : (Bright held seens a a' → ⊥) → (Bright held seens b b' → ⊥) → LeakTold T rep held seens c d None
  leak_dark x y = LeakTold.nothing (λ w. elim w.part [
    | inl (h, g) ↦ x (subst (On held) (sym e.left) h, λ o. g (subst (On seens) f.left o))
    | inr (h, g) ↦ y (subst (On held) (sym e.right) h, λ o. g (subst (On seens) f.right o))
  ])

-- ---- the row of a cell

module _ {T : Table} {rep held r : List ℕ} {c d : ℕ} where
  told_leak : {p : Option ℕ} {x : ℕ} → LeakTold T rep held r c d p → p ≡ Some x → (x ≤ 128) × (class_at rep x ≡ x) × (On r x → ⊥)
  told_leak {x = x} (LeakTold.leak {x = y} h s n) e = let z : y ≡ x = cc in subst (λ k. (k ≤ 128) × (class_at rep k ≡ k) × (On r k → ⊥)) z (h, s, n)
  told_leak (LeakTold.nothing n) e = clash (cc)

  told_none : {p : Option ℕ} → LeakTold T rep held r c d p → p ≡ None → Leaks T rep held r c d → ⊥
  told_none (LeakTold.leak h s n) e = clash (cc)
  told_none (LeakTold.nothing n) e = n

  module _ {p : Option ℕ} (t : LeakTold T rep held r c d p) where
    pub leak_low : {x : ℕ} → p ≡ Some x → x ≤ 128
    leak_low e = (told_leak t e).0

    module _ {m : List ℕ} {ch : Bool} (w : LeakingRow T rep held c m r ch d) where
      pub row_mark : {x : ℕ} → p ≡ Some x → LeakingRow T rep held c m (set r x 1) true (d + 1)
      row_mark {x} e = let (h, s, n) = told_leak t e in record { grown = grown_mark w.grown x h s n; still = λ i. absurd (true≢false i) }

      pub row_skip : p ≡ None → LeakingRow T rep held c m r ch (d + 1)
      row_skip e = record { grown = w.grown; still = λ i. below_more (λ d. Leaks T rep held r c d → ⊥) d (w.still i) (told_none t e) }

pub row_unkin : {T : Table} {rep held m : List ℕ} {c n : ℕ} → length m ≡ 129 → MarkRow rep m → (Kin (T c) (T c) → ⊥) → LeakingRow T rep held c m m false n
row_unkin l w none = record { grown = grown_none l w; still = λ e d h x. none (kin_self x.may.kin) }

-- ---- the rows of all cells

-- Nothing leaks at the cells of `over` below `upto`.
abbrev pub Quiet : Table → ℕ → List ℕ → List ℕ → List ℕ → List ℕ → ℕ → Type 0
Quiet T n rep held over m upto = (c : ℕ) → c < upto → On over c → (d : ℕ) → d < n → Leaks T rep held m c d → ⊥

module _ {T : Table} {n : ℕ} {rep held : List ℕ} (over : List ℕ) {m : List ℕ} {c : ℕ} (x : Quiet T n rep held over m c) where
  pub quiet_skip : (On over c → ⊥) → Quiet T n rep held over m (c + 1)
  quiet_skip none = below_more (λ c. On over c → (d : ℕ) → d < n → Leaks T rep held m c d → ⊥) c x (λ o. absurd (none o))

  -- The sweep over the row of c begins with the marks m.
  pub quiet_row : {m' r : List ℕ} {ch : Bool} → m' ≡ m → LeakingRow T rep held c m' r ch n → ch ≡ false → Quiet T n rep held over m (c + 1) × (r ≡ m)
  quiet_row i w e = (
    below_more (λ c. On over c → (d : ℕ) → d < n → Leaks T rep held m c d → ⊥) c x
        (λ o. subst (λ z. (d : ℕ) → d < n → Leaks T rep held z c d → ⊥) (w.grown.same e ∙ i) (w.still e)),
    w.grown.same e ∙ i,
  )

-- ---- the sets

pub leaked_all : {T : Table} {n : ℕ} {rep run held over m r : List ℕ} {p : ℕ} {ch : Bool} → HeldRow T rep m held → OverRow T rep held run p over →
    Leaking T n rep held over m r ch → Leaked T n rep run p m r ch
leaked_all {T} {n} {rep} {run} {held} {over} {m} {r} x y z = record {
  grown = z.grown;
  tight = λ e. record { held = held; over = over; holds = subst (λ s. HeldRow T rep s held) (sym (z.grown.same e)) x; tops = y; still = z.still e };
}
