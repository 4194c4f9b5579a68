-- The records of the learnt cells below c stand in the buffer up to `at`.
use Prim.Native.Nat.{◌*◌}
use mathlib.Core.Path.{◌≡◌, refl, ap, ◌∙◌}
use mathlib.Core.List.{◌++◌, map}
use native.Mathlib.Omega.{arith}
use lib.ListN.{length}
use lib.Seq.{sets}
use Rattle.model.specs.Case.{LN}
use Rattle.model.specs.Format.{Kind, mark, event_bytes, joined}
use Rattle.records.proofs.Rows.{sets_kept}
use Rattle.reducing.specs.Plan.{marked}
use Rattle.reducing.proofs.PlanLaws.{marked_few, marked_up}
use Rattle.reducing.proofs.BytesLaws.{learning_start, learning_skip, learning_more, learning_end}
use Rattle.reducing.proofs.write.write_events.Goals as goal
use Rattle.reducing.proofs.write.write_events.Goals.{then-plan-c-eq1, else-plan-c-eq1}

pub loop-c-init : goal.loop-c-init
loop-c-init c = (learning_start c.args.plan.now.learnt (4 * c.args.plan.now.cells) c.args.out.now, refl)

pub put_event-requires : goal.put_event-requires
put_event-requires c =
    omega (arith, marked_up c.args.plan.now.learnt c.args.plan.now.cells c.loop-c.c c.loop-c-test.true c.if-plan-c-eq1.true, c.loop-c.invariant.0.place)

pub overflow_add-at : goal.overflow_add-at
overflow_add-at c =
    omega (arith, c.requires.0.few, marked_few c.args.plan.now.learnt c.args.plan.now.cells, c.loop-c.invariant.0.place, marked_up c.args.plan.now.learnt c.args.plan.now.cells c.loop-c.c c.loop-c-test.true c.if-plan-c-eq1.true)

pub loop-c-preserved : goal.loop-c-preserved
loop-c-preserved c =
    let p = c.args.plan.now in
    elim c.if-plan-c-eq1.branch [
      | then-plan-c-eq1 w ↦ rw (w.at-is, w.out-is) (
        learning_more p.learnt (4 * p.cells) c.args.out.now c.loop-c.c c.loop-c.at c.loop-c.out c.loop-c.invariant.0 _ w.if-plan-c-eq1.true w.put_event.ensures,
        sets_kept (length c.args.out.now) c.loop-c.out _ c.loop-c.at (event_bytes (LN c.loop-c.c)) c.loop-c.invariant.1 w.put_event.ensures,
      )
      | else-plan-c-eq1 w ↦ rw (w.at-is, w.out-is) (
        learning_skip p.learnt (4 * p.cells) c.args.out.now c.loop-c.c c.loop-c.at c.loop-c.out c.loop-c.invariant.0 w.if-plan-c-eq1.false,
        c.loop-c.invariant.1,
      )
    ]

pub returns : goal.returns
returns c =
    let p = c.args.plan.now in
    let z : c.loop-c.c ≡ p.cells = omega arith in
    learning_end p.learnt (4 * p.cells) c.args.out.now c.loop-c.c c.loop-c.at c.loop-c.out c.loop-c.invariant.0 _ c.put_mark.ensures ∙
    ap (λ i. sets c.args.out.now (4 * p.cells) (joined event_bytes (map LN (marked p.learnt i)) ++ mark Kind.End)) z
