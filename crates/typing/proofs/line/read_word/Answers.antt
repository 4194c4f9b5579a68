-- The two words begin with different letters.
use Rattle.typing.proofs.WordLaws.{word_learn, word_make, word_stops_learn, word_stops_make}
use Rattle.typing.proofs.line.read_word.Goals as goal

pub returns-then-learnt-eq6 : goal.returns-then-learnt-eq6
returns-then-learnt-eq6 c = word_learn c.args.text.now c.args.at _ c.matched-learnt.ensures c.if-learnt-eq6.true

pub returns-then-made-eq5 : goal.returns-then-made-eq5
returns-then-made-eq5 c = word_make c.args.text.now c.args.at _ c.matched-made.ensures c.if-made-eq5.true

pub returns-then-made-eq0 : goal.returns-then-made-eq0
returns-then-made-eq0 c = word_stops_learn c.args.text.now c.args.at _ _ _ c.wrong.ensures c.matched-learnt.ensures c.if-learnt-eq6.false c.matched-made.ensures c.if-made-eq0.true

pub returns : goal.returns
returns c = word_stops_make c.args.text.now c.args.at _ _ c.wrong-2.ensures c.matched-made.ensures c.if-made-eq5.false c.if-made-eq0.false
