-- The loop's invariant: of the marked cells from the counter up to c the parts are marked; parts are lower, so at 0 all that stands in c is marked.
use mathlib.Core.Path.{◌≡◌, subst, subst₂}
use Prim.Native.Nat.{suc, ◌-◌}
use native.Mathlib.Omega.{arith}
use borrow.Author.Rules.{rules}
use lib.ListN.{set}
use Rattle.model.specs.Stored.{table_in}
use Rattle.casefile.specs.Events.{PartsMarked}
use Rattle.casefile.proofs.WithinLaws.{Descent, descent_marked, within_marked}
use Rattle.casefile.proofs.rest.mark_within.Goals as goal

pub loop-i-preserved-then-marks-i-eq1 : goal.loop-i-preserved-then-marks-i-eq1
loop-i-preserved-then-marks-i-eq1 c =
    let T = table_in c.args.table.now.words in
    let p : c.loop-i.i ≡ suc (c.loop-i.i - 1) = omega arith in
    let s = subst (λ i. Descent T c.args.c (set c.args.marks.now c.from-top.result 1) i c.loop-i.marks) p c.loop-i.invariant in
    descent_marked T c.args.table.now.formed.lower c.args.c _ (c.loop-i.i - 1) c.loop-i.marks s c.mark_parts.new.marks c.if-marks-i-eq1.true
    (subst (λ k. PartsMarked k c.loop-i.marks c.mark_parts.new.marks) c.cell_at.ensures c.mark_parts.ensures)

pub returns : goal.returns
returns c =
    let T = table_in c.args.table.now.words in
    let p : c.loop-i.i ≡ 0 = omega arith in
    within_marked T c.args.table.now.formed.lower c.args.c c.args.marks.now (search rules) c.requires c.loop-i.marks
    (subst₂ (λ x i. Descent T c.args.c (set c.args.marks.now x 1) i c.loop-i.marks) c.from-top.ensures p c.loop-i.invariant)
