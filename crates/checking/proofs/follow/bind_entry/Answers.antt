-- A variable's class is joined with that of its entry's cell; any other cell leaves the classes as they are.
use Rattle.model.specs.Stored.{table_in}
use Rattle.checking.proofs.FollowLaws.{binds_join}
use Rattle.checking.proofs.follow.bind_entry.Goals as goal

pub returns : goal.returns
returns c =
    binds_join c.args.table.now.count (table_in c.args.table.now.words) c.args.rep c.args.c c.args.x c.join.result (rw c.from.ensures at (c.is_variable.ensures.yes c.if-not-is_variable.false))
    c.join.ensures
