-- `knowledge::open_known` meets its contract: the invariant is that the marks come from the first ones by sweeps; the measure is the number of marks that are missing.
use Prim.Native.Nat.{◌+◌}
use Rattle.model.specs.Stored.{table_in}
use Rattle.knowledge.specs.Sweeps.{missing}
use Rattle.knowledge.proofs.Closing.{Between}
use Rattle.knowledge.proofs.open_known.Given as goal

abbrev pub invariant-loop : goal.invariant-loop
invariant-loop l = Between (table_in l.table.words) l.rep l.initial.marks.seen l.initial.marks.built l.marks.seen l.marks.built

abbrev pub decreases-loop : goal.decreases-loop
decreases-loop l = missing l.marks.seen + missing l.marks.built
