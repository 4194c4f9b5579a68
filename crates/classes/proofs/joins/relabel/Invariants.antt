-- The loop's invariant: the entries below the index are relabelled, the others are as they were.
use Rattle.classes.proofs.JoinLaws.{Relabelling}
use Rattle.classes.proofs.joins.relabel.Given as goal

abbrev pub invariant-loop-x : goal.invariant-loop-x
invariant-loop-x l = Relabelling l.initial.rep l.o l.r l.rep l.x-index
