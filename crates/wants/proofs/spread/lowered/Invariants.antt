-- The invariant: the row has the marks to start from. Each sweep that changes something leaves fewer entries without a mark.
use Rattle.knowledge.specs.Sweeps.{missing}
use Rattle.wants.specs.Starts.{Wider}
use Rattle.wants.proofs.spread.lowered.Given as goal

abbrev pub invariant-loop : goal.invariant-loop
invariant-loop l = Wider l.rep l.initial.m l.m

abbrev pub decreases-loop : goal.decreases-loop
decreases-loop l = missing l.m
