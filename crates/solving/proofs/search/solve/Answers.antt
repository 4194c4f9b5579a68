-- What the search says, with the list of its classes.
use Rattle.model.specs.Stored.{run_in}
use Rattle.solving.proofs.SearchLaws.{solves, solves_none}
use Rattle.solving.proofs.search.solve.Goals as goal

pub returns-in-None : goal.returns-in-None
returns-in-None c = solves_none c.args.table.now.formed (run_in c.args.count c.args.run.now) c.start-rep.result c.start-rep.ensures c.in-None.ensures

pub returns-in-Some : goal.returns-in-Some
returns-in-Some c = solves c.args.table.now.formed (run_in c.args.count c.args.run.now) c.start-rep.result c.start-rep.ensures c.in-Some.ensures c.value_list.ensures
