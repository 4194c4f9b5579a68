-- The left parts decide if they are of two classes, else the right ones.
use Rattle.theory.specs.Cells.{class_at}
use Rattle.classes.proofs.DifferLaws.{told_left, told_right}
use Rattle.classes.proofs.alike.both.Goals as goal

pub returns-in_default : goal.returns-in_default
returns-in_default c = λ h. told_left (class_at c.args.rep.now) h c.args.a c.args.b c.args.x c.args.y c.part.result c.in_default.not-Same c.part.ensures

pub returns-in-Same : goal.returns-in-Same
returns-in-Same c = λ h. told_right (class_at c.args.rep.now) h c.args.a c.args.b c.args.x c.args.y c.part-in-Same.result (rw c.in-Same.is at c.part.ensures) c.part-in-Same.ensures
