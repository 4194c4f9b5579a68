-- The marks below c are exact, and each turn tells one cell more.
use Prim.Native.Nat.{ℕ}
use mathlib.Core.Path.{subst}
use native.Mathlib.Omega.{arith}
use Rattle.model.specs.Stored.{table_in}
use Rattle.theory.specs.Decides.{Decides}
use Rattle.reducing.specs.Bare.{IsBare}
use Rattle.reducing.proofs.MarkLaws.{marks_none, marks_yes, marks_no}
use Rattle.reducing.proofs.kept.bare.Goals as goal
use Rattle.reducing.proofs.kept.bare.Goals.{then-is_bare, else-is_bare}

pub loop-c-init : goal.loop-c-init
loop-c-init c = marks_none (λ i. IsBare c.args.rep.now c.args.built.now i (table_in c.args.table.now.words i))

pub loop-c-preserved : goal.loop-c-preserved
loop-c-preserved c =
    let P : ℕ → Type 0 = λ i. IsBare c.args.rep.now c.args.built.now i (table_in c.args.table.now.words i) in
    let x = c.loop-c.c in
    let tells : Decides c.is_bare.result (P x) = subst (λ k. Decides c.is_bare.result (IsBare c.args.rep.now c.args.built.now x k)) c.cell_at.ensures c.is_bare.ensures in
    elim c.if-is_bare.branch [
      | then-is_bare w ↦ rw w.marks-is (marks_yes P x c.loop-c.marks c.loop-c.invariant (omega (arith, c.requires.rows.few)) (tells.yes w.if-is_bare.true))
      | else-is_bare w ↦ rw w.marks-is (marks_no P x c.loop-c.marks c.loop-c.invariant (tells.no w.if-is_bare.false))
    ]
