-- The invariant: nothing is marked, and nothing leaks at the cells of over below c.
use Rattle.granting.proofs.LeakLaws.{quiet_skip, quiet_row}
use Rattle.granting.proofs.leaks.leak.Goals as goal
use Rattle.granting.proofs.leaks.leak.Goals.{else-over-c-eq1-via-then-over-c-eq1+else-leak_row, else-over-c-eq1-via-else-over-c-eq1}

pub loop-c-preserved : goal.loop-c-preserved
loop-c-preserved c =
    let (quiet, same) = c.loop-c.invariant in
    elim c.else-over-c-eq1.branch [
      | else-over-c-eq1-via-then-over-c-eq1+else-leak_row w ↦ rw w.seen-is (quiet_row c.args.over.now quiet same w.leak_row.ensures w.if-leak_row.false)
      | else-over-c-eq1-via-else-over-c-eq1 w ↦ rw w.seen-is (quiet_skip c.args.over.now quiet w.if-over-c-eq1.false, same)
    ]
