-- The length, then the records.
use Rattle.typing.proofs.FileLaws.{write_short, write_done}
use Rattle.typing.proofs.write_file.Goals as goal

pub returns-then-out-length : goal.returns-then-out-length
returns-then-out-length c = λ es k. write_short es c.args.lines.now k c.args.out.now c.cells_size-cells.result c.cells_size-cells.ensures.0 c.if-out-length.true

pub returns : goal.returns
returns c = λ es k. write_done es c.args.lines.now k c.args.out.now _ _ c.cells_size-cells.result c.cells_size-cells.ensures.0 c.if-out-length.false c.put_cells.ensures c.put_events.ensures
