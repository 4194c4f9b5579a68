-- `knowledge::is_made` meets its contract: one law for what he composes the cell of, nothing, one part or two.
use Rattle.knowledge.proofs.ByKind.{one_part, two_parts, made_one, made_not, made_two}
use Rattle.knowledge.proofs.is_made.Goals as goal

pub has-requires-clause-x_bound : goal.has-requires-clause-x_bound
has-requires-clause-x_bound c = c.requires.by_index _ (one_part c.made_of.ensures c.in-One.is)

pub has-requires-in-Two-clause-x_bound : goal.has-requires-in-Two-clause-x_bound
has-requires-in-Two-clause-x_bound c = c.requires.by_index _ (two_parts c.made_of.ensures c.in-Two.is).0

pub has-requires-then-has-clause-x_bound : goal.has-requires-then-has-clause-x_bound
has-requires-then-has-clause-x_bound c = c.requires.by_index _ (two_parts c.made_of.ensures c.in-Two.is).1

pub returns-in-One : goal.returns-in-One
returns-in-One c = made_one c.made_of.ensures c.in-One.is c.has.ensures

pub returns-then-has : goal.returns-then-has
returns-then-has c = made_two c.made_of.ensures c.in-Two.is (c.has-in-Two.ensures.yes c.if-has.true) c.has-then-has.ensures

pub returns-else-has : goal.returns-else-has
returns-else-has c = rw c.if-has.false (made_not c.made_of.ensures c.in-Two.is (c.has-in-Two.ensures.no c.if-has.false))
