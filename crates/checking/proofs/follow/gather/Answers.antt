-- The loop's invariant: exactly those messages satisfy the classes that follow the list below c.
use native.Mathlib.Omega.{arith}
use Rattle.model.specs.Stored.{table_in}
use Rattle.theory.proofs.Rows.{rows_var}
use Rattle.checking.proofs.FollowLaws.{gathering_none, gathering_more, gathering_all}
use Rattle.checking.proofs.follow.gather.Goals as goal

pub loop-c-init : goal.loop-c-init
loop-c-init c = gathering_none _ _ _ _ c.start-rep.ensures

pub loop-c-preserved : goal.loop-c-preserved
loop-c-preserved c =
    gathering_more c.args.table.now.count (table_in c.args.table.now.words) c.args.list.now c.loop-c.rep c.loop-c.c c.loop-c.invariant c.bind_entry-bound.result c.bind_entry-bound.ensures

pub returns : goal.returns
returns c =
    gathering_all c.args.table.now.count (table_in c.args.table.now.words) c.args.list.now c.loop-c.rep c.loop-c.c c.loop-c.invariant
    (λ v i. let h = rows_var c.args.table.now.formed v i in omega arith)
