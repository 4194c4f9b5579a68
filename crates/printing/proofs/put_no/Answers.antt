-- The second line behind the first.
use borrow.Author.Rules.{rules}
use Rattle.lines.proofs.PutLaws.{put_join}
use Rattle.printing.proofs.put_no.Goals as goal

pub returns : goal.returns
returns c = let h = put_join c.put_counts-counted.ensures.0 c.put_text.ensures in search rules
