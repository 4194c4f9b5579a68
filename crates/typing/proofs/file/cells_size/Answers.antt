-- The size is that of the records before c.
use mathlib.Core.Path.{sym, ap}
use native.Mathlib.Omega.{arith}
use lib.ListN.{length}
use Rattle.model.specs.Stored.{table_in}
use Rattle.model.specs.Format.{cell_bytes}
use Rattle.cells.specs.Cells.{as_cell}
use Rattle.typing.proofs.FileLaws.{row_none, row_length, cell_size}
use Rattle.typing.proofs.file.cells_size.Goals as goal

pub loop-c-init : goal.loop-c-init
loop-c-init c = (ap length (sym (row_none cell_bytes (table_in c.args.table.now))), omega arith)

pub loop-c-preserved : goal.loop-c-preserved
loop-c-preserved c =
    let k = cell_size (as_cell c.cell_at.result) in
    (omega (arith, ap (λ k. length (cell_bytes k)) c.cell_at.ensures, row_length cell_bytes (table_in c.args.table.now) c.loop-c.c), omega arith)
