-- The line, laid at the front of the buffer.
use mathlib.Core.Path.{ap, ◌∙◌, subst}
use Rattle.std.proofs.Common.{OnOk}
use Rattle.std.specs.Io.KnownBytes.{Appends}
use Rattle.refusals.specs.Numbers.{number_of}
use Rattle.enter.specs.Refusal.{line_of, refusal_line}
use Rattle.lines.proofs.PutLaws.{put_front}
use Rattle.enter.proofs.tell_refusal.Goals as goal

pub returns : goal.returns
returns g c =
    let line = refusal_line (number_of c.args.refusal.fault) c.args.refusal.place in
    let spot = c.spot_of-spot.ensures in
    subst (λ bs. OnOk c.write_all.result (Appends (g.W.Write.contents c.args.errors.now) (g.W.Write.contents c.write_all.new.self) bs))
    (put_front c.lay_refusal-size.ensures ∙ (ap (λ l. line l c.spot_of-spot.result.column) spot.0 ∙ ap (line (line_of c.args.text.now c.args.refusal.place)) spot.1))
    c.write_all.ensures.bytes
