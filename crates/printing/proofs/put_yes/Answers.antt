-- The lines of the variables behind the first two.
use Rattle.lines.proofs.PutLaws.{put_join}
use Rattle.printing.proofs.put_yes.Goals as goal

pub returns : goal.returns
returns c = put_join c.put_counts-counted.ensures.0 (put_join c.put_text-told.ensures c.put_values.ensures)
