-- The size is that of the records before c.
use mathlib.Core.Path.{◌≡◌}
use Prim.Native.Nat.{◌*◌, ◌≤◌}
use lib.ListN.{length}
use Rattle.model.specs.Stored.{table_in}
use Rattle.model.specs.Format.{cell_bytes}
use Rattle.typing.proofs.FileLaws.{row}
use Rattle.typing.proofs.file.cells_size.Given as goal

abbrev pub invariant-loop-c : goal.invariant-loop-c
invariant-loop-c l = (l.size ≡ length (row cell_bytes (table_in l.table) l.c)) × (l.size ≤ 4 * l.c)
