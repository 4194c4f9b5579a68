-- The invariant is what is promised, for the events passed.
use mathlib.Core.Path.{sym, ◌∙◌, ap}
use Prim.Native.Nat.{◌<◌}
use native.Mathlib.Omega.{arith}
use borrow.Author.Rules.{rules}
use Rattle.cells.specs.Cells.{as_event}
use Rattle.knowledge.proofs.HeardLaws.{learnt_none, learnt_make, learnt_learn}
use Rattle.knowledge.proofs.heard.learnt_before.Goals as goal
use Rattle.knowledge.proofs.heard.learnt_before.Goals.{in-Make, in-Learn}

pub loop-q-init : goal.loop-q-init
loop-q-init c = learnt_none c.requires.class_row c.args.count c.args.run.now

pub loop-q-preserved : goal.loop-q-preserved
loop-q-preserved c =
    let h : c.loop-q.q < c.args.count = omega arith in
    elim c.match-event_at.branch [
      | in-Make w ↦ rw w.seen-is (learnt_make c.requires.class_row c.args.count c.args.run.now c.loop-q.q h c.loop-q.invariant (sym c.event_at.ensures ∙ ap as_event w.in-Make.is))
      | in-Learn w ↦ rw w.seen-is (learnt_learn c.requires.class_row c.args.count c.args.run.now c.loop-q.q h c.loop-q.invariant (sym c.event_at.ensures ∙ ap as_event w.in-Learn.is)
          (search rules))
    ]
