-- The word, then what stands behind it.
use Rattle.std.proofs.lemmas.Result.{err_from_is_err_and}
use Rattle.typing.proofs.WordLaws.{line_failed, line_found}
use Rattle.typing.proofs.line.find_line.Goals as goal

pub returns-in_err-word : goal.returns-in_err-word
returns-in_err-word c = let p = err_from_is_err_and c.from_residual.result c.from_residual.ensures.1 in rw (p.1, p.2) (c.in_err-word.ensures)

pub returns-in_err-to : goal.returns-in_err-to
returns-in_err-to c = let p = err_from_is_err_and c.from_residual-in_err-to.result c.from_residual-in_err-to.ensures.1 in rw (p.1, p.2) (line_failed c.args.text.now c.args.at c.args.store.now c.read_rest.new.store c.in_ok-word.word c.in_ok-word.behind c.in_ok-word.ensures _ c.in_err-to.ensures)

pub returns : goal.returns
returns c = line_found c.args.text.now c.args.at c.args.store.now c.read_rest.new.store c.in_ok-word.word c.in_ok-word.behind c.in_ok-word.ensures c.in_ok-to.to c.in_ok-to.cell _ c.in_ok-to.ensures c.event_of.ensures
