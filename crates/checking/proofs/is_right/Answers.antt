-- Following the list as classes, putting cells of one message together, and marking event by event, each by its contract.
use mathlib.Core.Path.{subst}
use mathlib.Core.Bool.{Bool}
use Rattle.model.specs.Stored.{table_in, run_in}
use Rattle.theory.proofs.Decides.{decides_no}
use Rattle.checking.specs.Made.{AllMade}
use Rattle.knowledge.proofs.ClassRows.{kept_row}
use Rattle.checking.proofs.RightLaws.{words_own, inside_own, right_round, right_yes, right_no}
use Rattle.checking.proofs.is_right.Goals as goal

pub invariant_of-owned : goal.invariant_of-owned
invariant_of-owned c = record { formed = words_own c.args.table.now.count c.args.table.now.words c.args.list.now c.put_own.result c.args.table.now.formed c.requires.form c.put_own.ensures }

pub follow-requires : goal.follow-requires
follow-requires c =
    let form = c.requires.form in
    record { list_len = form.size; inside = inside_own c.args.table.now.count c.args.table.now.words c.args.list.now c.put_own.result c.args.table.now.formed form c.put_own.ensures }

pub returns-in_default : goal.returns-in_default
returns-in_default c =
    decides_no (right_round c.args.table.now.count c.args.table.now.words c.args.list.now c.put_own.result c.args.table.now.formed c.requires.form c.put_own.ensures
    (run_in c.args.count c.args.run.now) c.in_default.ensures)

pub all_made-requires-clause-class_row : goal.all_made-requires-clause-class_row
all_made-requires-clause-class_row c =
    kept_row (words_own c.args.table.now.count c.args.table.now.words c.args.list.now c.put_own.result c.args.table.now.formed c.requires.form c.put_own.ensures) c.raise-rep.ensures.solved.kept

pub returns : goal.returns
returns c =
    let ev = run_in c.args.count c.args.run.now in
    let T = table_in c.put_own.result in
    record {
      yes = λ e. right_yes c.args.table.now.count c.args.table.now.words c.args.list.now c.put_own.result c.args.table.now.formed c.requires.form c.put_own.ensures ev
          c.in-Some.followed c.in-Some.ensures c.raise-rep.result c.raise-rep.ensures (subst (λ (b : Bool). AllMade T c.raise-rep.result ev b) e c.all_made.ensures);
      no = λ e. right_no c.args.table.now.count c.args.table.now.words c.args.list.now c.put_own.result c.args.table.now.formed c.requires.form c.put_own.ensures ev
          c.in-Some.followed c.in-Some.ensures c.raise-rep.result c.raise-rep.ensures (subst (λ (b : Bool). AllMade T c.raise-rep.result ev b) e c.all_made.ensures);
    }
