-- The invariant: the row is a way that goes on at c, which is not yet in it. Each step adds a cell.
use mathlib.Core.Path.{◌≡◌}
use mathlib.Core.Logic.{◌⊎◌}
use Rattle.model.specs.Stored.{table_in}
use Rattle.theory.specs.Cells.{On}
use Rattle.knowledge.specs.Sweeps.{missing}
use Rattle.granting.specs.Line.{Lacking, Walk}
use Rattle.granting.proofs.line.way.Given as goal

abbrev pub invariant-loop-m : goal.invariant-loop-m
invariant-loop-m l = Walk (table_in l.table.words) l.rep l.built l.m l.c × Lacking l.table.count l.rep l.built l.c × (On l.m l.c → ⊥) × (On l.m l.goal ⊎ (l.goal ≡ l.c))

abbrev pub decreases-loop-m : goal.decreases-loop-m
decreases-loop-m l = missing l.m
