-- The two cells are those of the table; one law for each way in which they meet.
use Rattle.theory.specs.Cells.{class_at}
use Rattle.classes.proofs.DifferLaws.{meets_as, meets_unlike, told_same, told_args, told_both}
use Rattle.classes.proofs.alike.compare.Goals as goal

pub returns-in-Unlike : goal.returns-in-Unlike
returns-in-Unlike c = meets_unlike (meets_as c.cell_at.ensures c.cell_at-2.ensures c.in-Unlike.is c.meet.ensures)

pub returns-in-Same : goal.returns-in-Same
returns-in-Same c = told_same (class_at c.args.rep.now) (meets_as c.cell_at.ensures c.cell_at-2.ensures c.in-Same.is c.meet.ensures)

pub returns-in-One : goal.returns-in-One
returns-in-One c =
    told_args (class_at c.args.rep.now) c.part.result
    (meets_as c.cell_at.ensures c.cell_at-2.ensures c.in-One.is c.meet.ensures) c.part.ensures

pub returns-in-Two : goal.returns-in-Two
returns-in-Two c =
    told_both (class_at c.args.rep.now) c.both.result
    (meets_as c.cell_at.ensures c.cell_at-2.ensures c.in-Two.is c.meet.ensures) c.both.ensures
