-- What is opened gives the classes and the marks that the plan asks for.
use Rattle.reducing.proofs.RunLaws.{run_given, run_plans}
use Rattle.model.specs.Stored.{run_in}
use Rattle.reducing.proofs.plan_run.Goals as goal

pub make_plan-requires : goal.make_plan-requires
make_plan-requires c =
    run_given c.args.table.now.count c.args.table.now.words c.args.table.now.formed c.requires.solid (run_in c.args.count c.args.run.now) c.open_heard-k.result c.open_heard-k.ensures

pub returns : goal.returns
returns c =
    record {
      sized = c.make_plan.ensures.sized;
      reduced = run_plans c.args.table.now.count c.args.table.now.words c.args.table.now.formed c.requires.solid (run_in c.args.count c.args.run.now) c.open_heard-k.result c.open_heard-k.ensures
          c.make_plan.result c.make_plan.ensures.reduced;
    }
