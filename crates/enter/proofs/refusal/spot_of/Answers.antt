-- The loop's invariant: the spot of the byte i, at or before the place.
use mathlib.Core.Path.{refl}
use Rattle.enter.proofs.SpotLaws.{reached_first, reached_next}
use Rattle.enter.proofs.refusal.spot_of.Goals as goal

pub loop-i-init : goal.loop-i-init
loop-i-init c = reached_first c.args.text.now c.args.place _ refl refl c.requires

pub loop-i-preserved : goal.loop-i-preserved
loop-i-preserved c =
    reached_next c.args.text.now c.args.place c.loop-i.i c.loop-i.spot c.next_spot-spot.result c.loop-i.invariant c.loop-i-test.true c.if-i-place.false
    c.next_spot-spot.ensures.0 c.next_spot-spot.ensures.1
