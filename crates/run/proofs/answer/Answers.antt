-- The reply to the bytes that were read.
use Rattle.run.proofs.AnswerLaws.{answers}
use Rattle.run.proofs.answer.Goals as goal

pub returns : goal.returns
returns c = answers c.args.start.now c.args.out.now _ c.args.n c.write_reply.result c.requires.0 c.requires.2 c.write_reply.ensures
