-- Marks to start from, event by event: none before the first, one more at each LN.
use mathlib.Core.Path.{◌≡◌, sym, subst}
use mathlib.Core.Logic.{◌⊎◌, inl, inr}
use mathlib.Core.Option.{some}
use mathlib.Core.List.{List}
use Prim.Native.Nat.{ℕ, ◌+◌}
use native.Mathlib.Omega.{arith}
use Rattle.model.specs.Case.{LN, Table, Run, Learnt}
use Rattle.model.proofs.Finite.{eq?}
use Rattle.theory.specs.Cells.{class_at, On}
use Rattle.theory.specs.Level.{Mark, seen}
use Rattle.theory.proofs.Sweep.{mark_later, mark_rep}
use Rattle.knowledge.specs.Knowledge.{ClassRow, Learns, Starts}
use Rattle.knowledge.proofs.Grow.{no_marks, none_on}

module _ (T : Table) {n : ℕ} {rep : List ℕ} (w : ClassRow n rep) (ev : Run) where
  -- Before the first event nothing is learnt.
  pub starts_none : Starts T rep ev 0 no_marks
  starts_none = record { low = λ c (q, lt, e). absurd (omega arith); high = λ c o. absurd (none_on c o) }

  -- What is learnt before p + 1 is learnt before p or at p.
  learnt_next : {p c : ℕ} → Learnt ev (p + 1) c → Learnt ev p c ⊎ (ev p ≡ some (LN c))
  learnt_next {p} {c} (q, lt, e) = elim (eq? q p) [ inl i ↦ inr (subst (λ k. ev k ≡ some (LN c)) i e) | inr o ↦ inl (q, omega arith, e) ]

  module _ (p : ℕ) {s : List ℕ} (st : Starts T rep ev p s) where
    later : {c : ℕ} → Mark T (class_at rep) ev p seen c → Mark T (class_at rep) ev (p + 1) seen c
    later h = mark_later T (class_at rep) ev p w.idem (omega arith) h

    -- An event that is no LN adds nothing.
    pub starts_same : ((c : ℕ) → ev p ≡ some (LN c) → ⊥) → Starts T rep ev (p + 1) s
    starts_same none = record { low = λ c h. elim (learnt_next h) [ inl l ↦ st.low c l | inr e ↦ absurd (none c e) ]; high = λ c o. later (st.high c o) }

    -- An LN adds the class of its cell.
    pub starts_learn : (c : ℕ) {r : List ℕ} → ev p ≡ some (LN c) → Learns rep s c r → Starts T rep ev (p + 1) r
    starts_learn c {r} e x = record {
      low = λ d h. elim (learnt_next h) [ inl l ↦ x.kept (class_at rep d) (st.low d l) | inr i ↦ subst (λ k. On r (class_at rep k)) (same d i) x.learnt ];
      high = λ d o. elim (x.only d o) [
        | inl k ↦ later (st.high d k)
        | inr q ↦ subst (λ k. Mark T (class_at rep) ev (p + 1) seen k) (sym q) (mark_rep T (class_at rep) ev (p + 1) w.idem (Mark.learnt (p, omega arith, e)))
      ];
    }
      where
        same : (d : ℕ) → ev p ≡ some (LN d) → c ≡ d
        same d i = cc
