-- The loop's invariant: the entries of the cells below i stand at the front of the buffer, and the bytes beyond are as they were.
use mathlib.Core.Path.{◌≡◌}
use mathlib.Core.List.{◌++◌}
use lib.ListN.{length, drop}
use Rattle.model.specs.Stored.{table_in}
use Rattle.equating.specs.Entries.{list_of}
use Rattle.equating.proofs.write_list.Given as goal

abbrev pub invariant-loop-i : goal.invariant-loop-i
invariant-loop-i l = (l.out ≡ list_of (table_in l.words) l.rep l.i ++ drop l.i l.initial.out) × (length l.out ≡ length l.initial.out)
