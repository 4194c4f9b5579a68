-- `knowledge::gives` meets its contract: one law for what the cell gives once it is seen.
use Rattle.knowledge.proofs.ByKind.{locked_key, gives_open, gives_locked, gives_shut}
use Rattle.knowledge.proofs.gives.Goals as goal

pub has-requires-clause-x_bound : goal.has-requires-clause-x_bound
has-requires-clause-x_bound c = c.requires.by_index _ (locked_key c.opens.ensures c.in-Locked.is)

pub returns-in-Open : goal.returns-in-Open
returns-in-Open c = gives_open c.opens.ensures c.in-Open.is

pub returns-in-Locked : goal.returns-in-Locked
returns-in-Locked c = gives_locked c.opens.ensures c.in-Locked.is c.has.ensures

pub returns-in-Shut : goal.returns-in-Shut
returns-in-Shut c = gives_shut c.opens.ensures c.in-Shut.is c.is_made.ensures
