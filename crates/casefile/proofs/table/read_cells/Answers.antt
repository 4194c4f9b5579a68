-- The loop's invariant: the words are of the cells of the records before `at`, and reading on from there gives what the whole file is read as.
use mathlib.Core.Path.{refl}
use Rattle.casefile.proofs.CellLoop.{cells_start, cells_formed, cells_events, cells_refused, cells_next}
use Rattle.casefile.proofs.table.read_cells.Goals as goal

pub loop-fault-init : goal.loop-fault-init
loop-fault-init c = cells_start c.args.file.now _ c.no_words-row.ensures

pub returns-in-Err : goal.returns-in-Err
returns-in-Err c = cells_refused c.args.file.now c.loop-fault.at c.loop-fault.row c.loop-fault.invariant _ c.in-Err.ensures

pub returns-in-Ok-None : goal.returns-in-Ok-None
returns-in-Ok-None c = cells_events c.args.file.now c.loop-fault.at c.loop-fault.row c.loop-fault.invariant _ refl refl (rw c.in-Ok-None.field-0-is at c.in-Ok-None.ensures)

pub loop-fault-preserved : goal.loop-fault-preserved
loop-fault-preserved c =
    let x = rw c.in-Ok-Some.field-0-is at c.in-Ok-Some.ensures in
    rw (c.push.ensures, c.word_of.ensures, c.size_of-at.ensures) (cells_next c.args.file.now c.loop-fault.at c.loop-fault.row c.loop-fault.invariant _ x)

pub invariant_of-table : goal.invariant_of-table
invariant_of-table c = record { formed = cells_formed c.args.file.now c.loop-fault.at c.loop-fault.row c.loop-fault.invariant }
