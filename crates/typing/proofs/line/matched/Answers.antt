-- The bytes before i match.
use native.Mathlib.Omega.{arith}
use Rattle.typing.proofs.WordLaws.{matching_more}
use Rattle.typing.proofs.line.matched.Goals as goal

pub loop-i-preserved : goal.loop-i-preserved
loop-i-preserved c = matching_more c.args.text.now c.args.at c.args.word.now c.loop-i.i c.loop-i.invariant (omega arith) (c.has.ensures.yes c.if-not-has.false)
