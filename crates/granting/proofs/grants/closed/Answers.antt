-- The invariant: the marks are those to start from, and more. Each round that changes something leaves fewer entries without a mark.
use Rattle.granting.proofs.GrantLaws.{more_more}
use Rattle.granting.proofs.grants.closed.Goals as goal

pub returns : goal.returns
returns c = record { more = more_more c.loop.invariant c.round.ensures.more; still = c.round.ensures.still c.loop-test.false }
