-- The records of the events before p stand in the buffer.
use mathlib.Core.Path.{◌≡◌, refl, sym, ap, ◌∙◌}
use Prim.Native.Nat.{◌+◌, ◌*◌}
use native.Mathlib.Omega.{arith}
use lib.Seq.{sets}
use lib.ListN.{length}
use Rattle.model.specs.Format.{event_bytes}
use Rattle.records.proofs.Rows.{sets_kept}
use Rattle.typing.specs.File.{events_in}
use Rattle.typing.proofs.FileLaws.{row, row_none, row_put, events_row, events_end}
use Rattle.typing.proofs.file.put_events.Goals as goal

pub loop-p-init : goal.loop-p-init
loop-p-init c = (ap (sets c.args.out.now c.args.start) (sym (row_none event_bytes (events_in c.args.run.now))), refl)

pub loop-p-preserved : goal.loop-p-preserved
loop-p-preserved c =
    let events = events_in c.args.run.now in
    let at = c.args.start + 3 * c.loop-p.p in
    let z : at ≡ c.args.start + length (row event_bytes events c.loop-p.p) = omega (arith, events_row events c.loop-p.p) in
    let g = c.put_event.ensures ∙ ap (λ k. sets c.loop-p.out at (event_bytes k)) c.event_at.ensures in
    (row_put event_bytes events c.args.out.now c.loop-p.out _ c.args.start at c.loop-p.p z c.loop-p.invariant.0 g, sets_kept (length c.args.out.now) c.loop-p.out _ at (event_bytes (events c.loop-p.p)) c.loop-p.invariant.1 g)

pub returns : goal.returns
returns c =
    let z : c.loop-p.p ≡ c.args.n = omega arith in
    events_end (events_in c.args.run.now) c.args.out.now c.loop-p.out _ c.args.start c.args.n
    (c.loop-p.invariant.0 ∙ ap (λ n. sets c.args.out.now c.args.start (row event_bytes (events_in c.args.run.now) n)) z) c.put_mark.ensures
