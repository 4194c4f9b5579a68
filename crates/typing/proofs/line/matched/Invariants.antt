-- The bytes before i match.
use Rattle.typing.proofs.WordLaws.{Matching}
use Rattle.typing.proofs.line.matched.Given as goal

abbrev pub invariant-loop-i : goal.invariant-loop-i
invariant-loop-i l = Matching l.text l.at l.word l.i
