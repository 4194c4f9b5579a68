-- The parts of the line, one behind the other.
use Rattle.lines.proofs.PutLaws.{put_join}
use Rattle.printing.proofs.put_refusal.Goals as goal

pub returns : goal.returns
returns c = put_join (rw (c.from-number.ensures, c.number.ensures) at c.put_told-numbered.ensures.0) (put_join c.put_told-placed.ensures.0 c.put_text.ensures)
