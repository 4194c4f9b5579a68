-- The loop's invariant: exactly those messages satisfy the classes that follow the list below c.
use Rattle.model.specs.Stored.{table_in}
use Rattle.checking.proofs.FollowLaws.{Gathering}
use Rattle.checking.proofs.follow.gather.Given as goal

abbrev pub invariant-loop-c : goal.invariant-loop-c
invariant-loop-c l = Gathering l.table.count (table_in l.table.words) l.list l.rep l.c
