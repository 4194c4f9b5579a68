-- `knowledge::own_marks` meets its contract: the only mark is that of his own name, if a cell beyond the table's stands for it.
use Rattle.knowledge.proofs.Grow.{own_one, own_none}
use Rattle.knowledge.proofs.own_marks.Goals as goal

pub returns-then-n-z : goal.returns-then-n-z
returns-then-n-z c = own_one c.requires c.class_within-z.ensures c.if-n-z.true

pub returns-else-n-z : goal.returns-else-n-z
returns-else-n-z c = own_none c.class_within-z.ensures c.if-n-z.false
