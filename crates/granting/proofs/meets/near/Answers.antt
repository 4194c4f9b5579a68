-- A case for each test; what clashes is never equal.
use borrow.Author.Tests.{not-false}
use Rattle.granting.proofs.meets.near.Goals as goal

pub returns-then-class_of : goal.returns-then-class_of
returns-then-class_of c e _ x = x.meet (c.clash.ensures (not-false _ e))
