-- The loop's invariant: the lines of the variables below v stand from `at` on.
use Prim.Native.Nat.{◌+◌, ◌*◌, ◌≤◌}
use mathlib.Core.Path.{◌≡◌}
use lib.ListN.{length}
use Rattle.model.specs.Stored.{table_in}
use Rattle.printing.specs.Lines.{value_lines}
use Rattle.lines.specs.Put.{Put}
use Rattle.printing.proofs.put_values.Given as goal

abbrev pub invariant-loop-v : goal.invariant-loop-v
invariant-loop-v l =
    (l.v ≤ l.n) × Put (value_lines (table_in l.words) l.list l.v) l.initial.out l.at l.out l.next × (l.next ≤ l.at + 11 * l.v) × (length l.out ≡ length l.initial.out) × (l.at + 11 * l.n ≤ length l.initial.out) × (l.n ≤ 128)
