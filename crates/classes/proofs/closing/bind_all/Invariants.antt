-- The loop's invariant: the classes have moved by joins alone, and if by none, the cells from c on ask for nothing. A step joins, or goes one cell down.
use Prim.Native.Nat.{◌≤◌, ◌+◌}
use Rattle.model.specs.Stored.{table_in}
use Rattle.classes.specs.Kept.{class_count}
use Rattle.classes.proofs.SettleLaws.{Sweeping}
use Rattle.classes.proofs.closing.bind_all.Given as goal

abbrev pub invariant-loop-c : goal.invariant-loop-c
invariant-loop-c l = Sweeping l.table.count (table_in l.table.words) l.initial.rep l.rep l.changed l.c × (l.c ≤ l.table.count + 1)

abbrev pub decreases-loop-c : goal.decreases-loop-c
decreases-loop-c l = class_count l.rep + l.c
