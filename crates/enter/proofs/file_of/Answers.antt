-- The reply, whose file fits.
use borrow.Author.Rules.{rules}
use Rattle.enter.proofs.EnterLaws.{enters}
use Rattle.enter.proofs.file_of.Goals as goal

pub returns : goal.returns
returns c = enters c.args.text.now c.args.out.now _ c.read_text.result c.requires (search rules) c.read_text.ensures
