-- The loop's invariant: the spot of the byte i, at or before the place.
use Rattle.enter.proofs.SpotLaws.{Reached}
use Rattle.enter.proofs.refusal.spot_of.Given as goal

abbrev pub invariant-loop-i : goal.invariant-loop-i
invariant-loop-i l = Reached l.text l.place l.i l.spot
