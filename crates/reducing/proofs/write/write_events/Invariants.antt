-- The records of the learnt cells below c stand in the buffer up to `at`.
use mathlib.Core.Path.{◌≡◌}
use Prim.Native.Nat.{◌*◌}
use lib.ListN.{length}
use Rattle.reducing.proofs.BytesLaws.{Learning}
use Rattle.reducing.proofs.write.write_events.Given as goal

abbrev pub invariant-loop-c : goal.invariant-loop-c
invariant-loop-c l = Learning l.plan.learnt (4 * l.plan.cells) l.initial.out l.c l.at l.out × (length l.out ≡ length l.initial.out)
