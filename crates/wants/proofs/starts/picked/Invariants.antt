-- The invariant: the row has what is picked below c, and else the marks to start from.
use Rattle.wants.specs.Starts.{Picks}
use Rattle.wants.proofs.starts.picked.Given as goal

abbrev pub invariant-loop-c : goal.invariant-loop-c
invariant-loop-c g l = Picks (goal.F-post g l.pick) l.initial.m l.m l.c
