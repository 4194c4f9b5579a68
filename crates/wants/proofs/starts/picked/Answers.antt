-- The invariant: the row has what is picked below c, and else the marks to start from.
use Rattle.wants.proofs.PickLaws.{picks_mark, picks_skip}
use Rattle.wants.proofs.starts.picked.Goals as goal
use Rattle.wants.proofs.starts.picked.Goals.{in-Some, in_default}

pub loop-c-preserved : goal.loop-c-preserved
loop-c-preserved g c =
    elim c.match-pick.branch [
      | in-Some w ↦ rw w.m-is (picks_mark c.loop-c.invariant c.pick.ensures w.in-Some.is (c.requires.low c.loop-c.c w.in-Some.t c.loop-c-test.true w.in-Some.ensures))
      | in_default w ↦ rw w.m-is (picks_skip c.loop-c.invariant c.pick.ensures w.in_default.is)
    ]
