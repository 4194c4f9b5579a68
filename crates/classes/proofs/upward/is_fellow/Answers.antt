-- By the class, then by the comparison.
use mathlib.Core.Bool.{false≢true}
use Rattle.model.specs.Stored.{table_in}
use Rattle.theory.specs.Cells.{class_at}
use Rattle.classes.proofs.DifferLaws.{told_apart}
use Rattle.classes.proofs.upward.is_fellow.Goals as goal

pub returns-in_default : goal.returns-in_default
returns-in_default c =
    let T = table_in c.args.table.now in
    record {
      yes = λ e. absurd (false≢true e);
      no = λ _ _. told_apart (class_at c.args.rep.now) (T c.args.c) (T c.args.d) c.compare.result c.compare.ensures c.in_default.not-Same;
    }
