-- The lines before `at` say entries, which are kept.
use Prim.Native.Nat.{◌-◌}
use lib.ListN.{length}
use Rattle.typing.proofs.TakeLaws.{TextAt}
use Rattle.typing.proofs.read_text.Given as goal

abbrev pub invariant-loop-at : goal.invariant-loop-at
invariant-loop-at l = TextAt l.text l.lines l.at

abbrev pub decreases-loop-at : goal.decreases-loop-at
decreases-loop-at l = length l.text - l.at
