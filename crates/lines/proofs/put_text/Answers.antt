-- The text is written over what stood there.
use Rattle.lines.proofs.PutLaws.{put_over}
use Rattle.lines.proofs.put_text.Goals as goal

pub returns : goal.returns
returns c = rw c.copy_from_slice.ensures.after (put_over c.args.text.now c.args.out.now c.args.at c.requires)
