-- The loop's invariant: the classes have moved by joins of cells that are alike; if by none, no cell below c that stands for its class has a fellow, and the links
-- are right.
use Rattle.classes.proofs.LinkLaws.{down_none}
use Rattle.classes.proofs.UpwardLaws.{lifting_none, lifting_more, lifting_stay}
use Rattle.classes.proofs.upward.lift.Goals as goal
use Rattle.classes.proofs.upward.lift.Goals.{then-meet, else-meet}

pub loop-c-init : goal.loop-c-init
loop-c-init c = lifting_none c.requires.solved down_none

pub loop-c-preserved : goal.loop-c-preserved
loop-c-preserved c = elim c.if-meet.branch [
  | then-meet w ↦ rw w.changed-is (lifting_more c.loop-c.invariant c.meet.ensures w.if-meet.true)
  | else-meet w ↦ rw w.changed-is (lifting_stay c.loop-c.invariant c.meet.ensures w.if-meet.false)
]
