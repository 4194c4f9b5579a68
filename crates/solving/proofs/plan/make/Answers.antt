-- What is to be made is built; or what is tried at p joins the choice.
use mathlib.Core.Path.{◌≡◌, refl, sym, ◌∙◌, ap, subst}
use native.Mathlib.Omega.{arith}
use lib.ListN.{get_or}
use Rattle.model.specs.Stored.{table_in, event_in, aim}
use Rattle.theory.specs.Cells.{class_at}
use Rattle.knowledge.proofs.ClassRows.{kept_row}
use Rattle.granting.proofs.GrantLaws.{still_whole}
use Rattle.solving.specs.Plans.{Chosen}
use Rattle.solving.proofs.PlanLaws.{lacking_goal, chosen_line, staged_built, made_tries}
use Rattle.solving.proofs.plan.make.Goals as goal
use Rattle.solving.proofs.plan.make.Goals.{then-st-t-eq1, else-st-t-eq1}

pub opened-o-requires-clause-class_row : goal.opened-o-requires-clause-class_row
opened-o-requires-clause-class_row c = kept_row c.args.table.now.formed c.requires.solved.kept

pub has-requires-clause-class_row : goal.has-requires-clause-class_row
has-requires-clause-class_row c = kept_row c.args.table.now.formed c.requires.solved.kept

pub returns-then-has-clause-made : goal.returns-then-has-clause-made
returns-then-has-clause-made c = λ count x at v.
    staged_built c.args.table.now.formed c.requires.solved count c.args.p c.args.run.now (c.aim_of-aim.ensures ∙ ap aim c.event_at.ensures) at v c.opened-o.ensures
    (c.has.ensures.yes c.if-has.true)

pub by_line-trial-requires-clause-whole : goal.by_line-trial-requires-clause-whole
by_line-trial-requires-clause-whole c = still_whole c.args.table.now.formed c.granted-st.ensures.marks.still

pub by_line-trial-requires-clause-lacking : goal.by_line-trial-requires-clause-lacking
by_line-trial-requires-clause-lacking c =
    lacking_goal c.requires.solved.kept _ (c.class_of-t.ensures ∙ ap (class_at c.args.rep.now) (c.cell.ensures ∙ (c.aim_of-aim.ensures ∙ ap aim c.event_at.ensures)))
    (c.requires.run_words.below c.args.p (omega arith)) c.if-st-t-eq1.false

pub returns : goal.returns
returns c =
    let a = c.args in
    let s = c.requires in
    let g = c.granted-st in
    let j = c.if-st-t-eq1 in
    let T = table_in a.table.now.words in
    let told : c.aim_of-aim.result ≡ aim (event_in (get_or a.run.now a.p 0)) = c.aim_of-aim.ensures ∙ ap aim c.event_at.ensures in
    elim j.branch [
      | then-st-t-eq1 w ↦ (
          let (x, y) = made_tries c.args.table.now.formed s.solved told {st = a.st.now} c.opened-o.ensures (c.has.ensures.no c.if-has.false) {g' = g.result} g.ensures.rows g.ensures.marks
          {t = j.trial} (subst (Chosen T a.table.now.count a.rep.now c.opened-o.result g.result a.run.now a.p) (sym w.trial-is) (Chosen.all w.by_all-trial.ensures.want w.by_all-trial.ensures.bare))
          (record { calm = refl; seen = refl; built = refl; bare = refl }) w.st-is c.better.ensures in
          record { rows = x; made = y })
      | else-st-t-eq1 w ↦ (
          let (x, y) = made_tries c.args.table.now.formed s.solved told {st = a.st.now} c.opened-o.ensures (c.has.ensures.no c.if-has.false) {g' = w.by_line-trial.new.g} g.ensures.rows g.ensures.marks
          {t = j.trial} (subst (Chosen T a.table.now.count a.rep.now c.opened-o.result g.result a.run.now a.p) (sym w.trial-is)
          (chosen_line (c.class_of-t.ensures ∙ ap (class_at a.rep.now) (c.cell.ensures ∙ told)) w.by_line-trial.ensures g.ensures.bare))
          w.by_line-trial.ensures.costs w.st-is c.better.ensures in
          record { rows = x; made = y })
    ]
