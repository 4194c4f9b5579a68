-- A letter and a number.
use Rattle.std.proofs.lemmas.Result.{err_from_is_err_and}
use Rattle.typing.specs.Store.{put}
use Rattle.typing.proofs.MessageLaws.{variable_none, variable_done}
use Rattle.typing.proofs.message.variable.Goals as goal

pub returns-in_err-n : goal.returns-in_err-n
returns-in_err-n c = λ d h. let p = err_from_is_err_and c.from_residual.result c.from_residual.ensures.1 in rw (p.1, p.2) (variable_none c.args.text.now c.args.at d h c.requires _ c.in_err-n.ensures)

pub returns : goal.returns
returns c = λ d h. variable_done c.args.text.now c.args.at d h c.requires c.args.store.now c.in_ok-n.n c.in_ok-n.to c.word_of.result (put c.enter.new.store c.enter.result) c.in_ok-n.ensures c.enter.ensures c.word_of.ensures
