-- The invariant: the marks are those to start from, and more. Each round that changes something leaves fewer entries without a mark.
use Prim.Native.Nat.{◌+◌}
use Rattle.knowledge.specs.Sweeps.{missing}
use Rattle.granting.specs.Grants.{More}
use Rattle.granting.proofs.grants.closed.Given as goal

abbrev pub invariant-loop : goal.invariant-loop
invariant-loop l = More l.rep l.fn.o.seen l.fn.o.built l.m.seen l.m.built

abbrev pub decreases-loop : goal.decreases-loop
decreases-loop l = missing l.m.seen + missing l.m.built
