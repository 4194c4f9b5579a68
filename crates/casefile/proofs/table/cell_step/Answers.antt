-- What stands at the front decides: a cell is tested further, an event or EN ends the cells, and what is cut or unknown is refused.
use mathlib.Core.Path.{subst}
use borrow.Author.Rules.{rules}
use lib.ListN.{drop}
use Rattle.casefile.proofs.RecordLaws.{rest_bytes, fronted}
use Rattle.casefile.proofs.CellLaws.{step_says, says_short, says_cell}
use Rattle.casefile.proofs.table.cell_step.Goals as goal

pub returns-in_ok-next_cell-in-Whole-Cell : goal.returns-in_ok-next_cell-in-Whole-Cell
returns-in_ok-next_cell-in-Whole-Cell c =
    let rest = drop c.args.at c.args.file.now in
    let w = fronted rest c.in_ok-c.ensures c.in-Whole-Cell.is c.in-Whole-Cell.field-0-is in
    subst (step_says rest c.args.n) c.in_ok-next_cell-in-Whole-Cell.was (says_cell c.args.n c.in-Whole-Cell.c (rest_bytes c.args.file.now c.args.at (search rules)) w c.next_cell.ensures)

pub returns-in_err-next_cell-in-Whole-Cell : goal.returns-in_err-next_cell-in-Whole-Cell
returns-in_err-next_cell-in-Whole-Cell c =
    let rest = drop c.args.at c.args.file.now in
    let w = fronted rest c.in_ok-c.ensures c.in-Whole-Cell.is c.in-Whole-Cell.field-0-is in
    let h = subst (step_says rest c.args.n) c.in_err-next_cell-in-Whole-Cell.was (says_cell c.args.n c.in-Whole-Cell.c (rest_bytes c.args.file.now c.args.at (search rules)) w c.next_cell.ensures) in
    search rules

pub returns-in-ShortCell : goal.returns-in-ShortCell
returns-in-ShortCell c = says_short (rw c.in-ShortCell.is at c.in_ok-c.ensures) c.short_fault.ensures
