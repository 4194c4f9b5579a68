-- The loop's invariant: the words are of the events of the records before `at`, `made` marks what their MKs hold, and reading on from there gives what the whole file is read as.
use mathlib.Core.Path.{ap}
use native.Mathlib.Omega.{arith}
use lib.ListN.{length-drop}
use Rattle.casefile.proofs.EventLoop.{events_start, events_refused, events_trailing, events_end, events_loose, events_next}
use Rattle.casefile.proofs.rest.read_events.Goals as goal

pub loop-fault-init : goal.loop-fault-init
loop-fault-init c = (
  omega arith,
  (let e = ap (λ w. w.count) c.no_words-run.ensures in omega arith),
  λ file cells h. events_start c.args.rest.now c.args.base c.args.table.now file cells h _ c.no_words-run.ensures,
)

pub returns-in-Err : goal.returns-in-Err
returns-in-Err c =
    λ file cells h. events_refused c.args.rest.now c.args.base c.args.table.now file cells h c.loop-fault.at c.loop-fault.run c.loop-fault.made (c.loop-fault.invariant.2 file cells h) _ c.in-Err.ensures

pub returns-then-rest-at-gt2 : goal.returns-then-rest-at-gt2
returns-then-rest-at-gt2 c =
    λ file cells h. events_trailing c.args.rest.now c.args.base c.args.table.now file cells h c.loop-fault.at c.loop-fault.run c.loop-fault.made (c.loop-fault.invariant.2 file cells h)
    (rw c.in-Ok-None.field-0-is at c.in-Ok-None.ensures) c.if-rest-at-gt2.true

pub returns-in-Ok-None : goal.returns-in-Ok-None
returns-in-Ok-None c =
    λ file cells h. events_end c.args.rest.now c.args.base c.args.table.now file cells h c.loop-fault.at c.loop-fault.run c.loop-fault.made (c.loop-fault.invariant.2 file cells h)
    (rw c.in-Ok-None.field-0-is at c.in-Ok-None.ensures) c.if-rest-at-gt2.false

pub returns-then-shows_loose : goal.returns-then-shows_loose
returns-then-shows_loose c =
    λ file cells h. events_loose c.args.rest.now c.args.base c.args.table.now file cells h c.loop-fault.at c.loop-fault.run c.loop-fault.made (c.loop-fault.invariant.2 file cells h)
    _ (rw c.in-Ok-Some.field-0-is at c.in-Ok-Some.ensures) (c.shows_loose.ensures.yes c.if-shows_loose.true)

pub loop-fault-preserved : goal.loop-fault-preserved
loop-fault-preserved c =
    let f = rw c.in-Ok-Some.field-0-is at c.in-Ok-Some.ensures in
    let w = f.whole in
    let r = f.room in
    let e = ap (λ w. w.count) c.push.ensures in (
      omega (arith, length-drop c.loop-fault.at c.args.rest.now),
      omega arith,
      λ file cells h. rw (c.push.ensures, c.event_word.ensures)
          (events_next c.args.rest.now c.args.base c.args.table.now file cells h c.loop-fault.at c.loop-fault.run c.loop-fault.made (c.loop-fault.invariant.2 file cells h)
          _ f (c.shows_loose.ensures.no c.if-shows_loose.false) c.mark_made.new.made c.mark_made.ensures),
    )
