-- The invariant: unless something changed, nothing leaks at the cells below d.
use borrow.Author.Rules.{rules}
use Rattle.granting.proofs.LeakLaws.{row_unkin, row_mark, row_skip}
use Rattle.granting.proofs.leaks.leak_row.Goals as goal
use Rattle.granting.proofs.leaks.leak_row.Goals.{in-Some, in_default}

pub returns-then-not-kin_at : goal.returns-then-not-kin_at
returns-then-not-kin_at c = row_unkin (search rules) c.requires.mark_row (c.kin_at.ensures.no c.if-not-kin_at.true)

pub loop-d-preserved : goal.loop-d-preserved
loop-d-preserved c = elim c.match-leak_at.branch [
  | in-Some w ↦ rw (w.seen-is, w.changed-is) (row_mark c.leak_at.ensures c.loop-d.invariant w.in-Some.is)
  | in_default w ↦ rw (w.seen-is, w.changed-is) (row_skip c.leak_at.ensures c.loop-d.invariant w.in_default.is)
]
