-- The records of the cells below i stand in the buffer; the next goes to 4 * i, where they end.
use mathlib.Core.Path.{◌≡◌}
use lib.ListN.{length}
use lib.Seq.{sets}
use Rattle.model.specs.Format.{cell_bytes, joined}
use Rattle.model.specs.Stored.{table_in}
use Rattle.reducing.specs.Plan.{up_to}
use Rattle.reducing.proofs.write.write_cells.Given as goal

abbrev pub invariant-loop-i : goal.invariant-loop-i
invariant-loop-i l = (l.out ≡ sets l.initial.out 0 (joined cell_bytes (up_to (table_in l.plan.table) l.i))) × (length l.out ≡ length l.initial.out)
