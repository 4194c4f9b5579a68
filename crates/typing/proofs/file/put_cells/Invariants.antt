-- The records of the cells before c stand in the buffer, up to `at`.
use mathlib.Core.Path.{◌≡◌}
use lib.Seq.{sets}
use lib.ListN.{length}
use Rattle.model.specs.Stored.{table_in}
use Rattle.model.specs.Format.{cell_bytes}
use Rattle.typing.proofs.FileLaws.{row}
use Rattle.typing.proofs.file.put_cells.Given as goal

abbrev pub invariant-loop-c : goal.invariant-loop-c
invariant-loop-c l = (l.at ≡ length (row cell_bytes (table_in l.table) l.c)) × (l.out ≡ sets l.fn.out 0 (row cell_bytes (table_in l.table) l.c)) × (length l.out ≡ length l.fn.out)
