-- The digits so far are those of n.
use Prim.Native.Nat.{◌-◌, ◌≤◌, ◌<◌}
use lib.ListN.{length}
use Rattle.typing.proofs.NumberLaws.{Digits}
use Rattle.typing.proofs.number.read_number.Given as goal

abbrev pub invariant-loop-c : goal.invariant-loop-c
invariant-loop-c l = (l.n ≤ l.bound) × (l.i ≤ length l.text) × (l.at < l.i) × Digits l.text l.at l.i l.n

abbrev pub decreases-loop-c : goal.decreases-loop-c
decreases-loop-c l = length l.text - l.i
