-- The first rule that adds marks; where none does, none is left to add.
use Rattle.knowledge.proofs.Grow.{none_marked}
use Rattle.granting.proofs.GrantLaws.{rounded_grant, rounded_leak}
use Rattle.granting.proofs.grants.round.Goals as goal

pub needed-keys-requires-clause-mark_row_2 : goal.needed-keys-requires-clause-mark_row_2
needed-keys-requires-clause-mark_row_2 c = none_marked

pub returns-then-grant : goal.returns-then-grant
returns-then-grant c = rounded_grant c.sweep.ensures.turned c.sweep.ensures.down c.grant.ensures c.if-grant.true

pub returns-else-grant : goal.returns-else-grant
returns-else-grant c =
    rounded_leak c.sweep.ensures.turned c.sweep.ensures.down c.grant.ensures c.if-sweep.false c.if-grant.false c.needed-keys.ensures.row c.leaked.ensures
