-- `building::lay_marks` meets its contract: the invariant is what it promises, for the cells passed.
use Rattle.building.specs.Lay.{Lays}
use Rattle.building.proofs.lay_marks.Given as goal

abbrev pub invariant-loop-c : goal.invariant-loop-c
invariant-loop-c l = Lays l.c l.rep l.built l.initial.out l.out
