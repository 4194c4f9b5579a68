-- The records of the events before p stand in the buffer.
use mathlib.Core.Path.{◌≡◌}
use lib.Seq.{sets}
use lib.ListN.{length}
use Rattle.model.specs.Format.{event_bytes}
use Rattle.typing.specs.File.{events_in}
use Rattle.typing.proofs.FileLaws.{row}
use Rattle.typing.proofs.file.put_events.Given as goal

abbrev pub invariant-loop-p : goal.invariant-loop-p
invariant-loop-p l = (l.out ≡ sets l.fn.out l.start (row event_bytes (events_in l.run) l.p)) × (length l.out ≡ length l.fn.out)
