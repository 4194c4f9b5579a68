-- The number behind the text.
use Rattle.lines.proofs.PutLaws.{put_join}
use Rattle.lines.proofs.put_told.Goals as goal

pub returns : goal.returns
returns c = put_join c.put_text-next.ensures c.put_number.ensures
