-- `knowledge::open_known` meets its contract: the invariant is that the marks come from the first ones by sweeps; the measure is the number of marks that are missing.
use Rattle.model.specs.Stored.{table_in}
use Rattle.knowledge.proofs.Closing.{opened}
use Rattle.knowledge.proofs.open_known.Goals as goal

pub returns : goal.returns
returns c =
    opened (table_in c.args.table.now.words) c.requires.class_row c.args.table.now.formed.beyond c.own_marks-built.ensures c.loop.invariant c.sweep.ensures.turned c.loop-test.false
