-- An event that makes a cell has its class if that is held.
use mathlib.Core.Path.{◌∙◌, ap}
use Rattle.theory.specs.Cells.{class_at}
use Rattle.theory.proofs.Decides.{decides_eqb}
use Rattle.cells.specs.Cells.{as_event}
use Rattle.wants.proofs.StartLaws.{due_learnt, due_pick}
use Rattle.wants.proofs.starts.due_at.Goals as goal

pub returns-in-Make : goal.returns-in-Make
returns-in-Make c =
    rw c.then_some.ensures (due_pick (ap as_event c.in-Make.is) (c.class_of-t.ensures ∙ ap (class_at c.args.rep.now) c.cell.ensures) _
    (decides_eqb _ 1 (λ x. x) (λ x. x)))

pub returns-in-Learn : goal.returns-in-Learn
returns-in-Learn c = due_learnt (ap as_event c.in-Learn.is)
