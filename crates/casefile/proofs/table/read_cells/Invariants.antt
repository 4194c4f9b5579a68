-- The loop's invariant: the words are of the cells of the records before `at`, and reading on from there gives what the whole file is read as.
use Prim.Native.Nat.{◌-◌}
use Rattle.casefile.proofs.CellLoop.{CellsSoFar}
use Rattle.casefile.proofs.table.read_cells.Given as goal

abbrev pub invariant-loop-fault : goal.invariant-loop-fault
invariant-loop-fault l = CellsSoFar l.file l.at l.row

abbrev pub decreases-loop-fault : goal.decreases-loop-fault
decreases-loop-fault l = 128 - l.row.count
