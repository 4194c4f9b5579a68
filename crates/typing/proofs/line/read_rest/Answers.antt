-- The list, then the line feed.
use Rattle.std.proofs.lemmas.Result.{err_from_is_err_and}
use Rattle.typing.proofs.WordLaws.{rest_else, rest_stuck, rest_done}
use Rattle.typing.proofs.line.read_rest.Goals as goal

pub returns-in_err-to : goal.returns-in_err-to
returns-in_err-to c = let p = err_from_is_err_and c.from_residual.result c.from_residual.ensures.1 in rw (p.1, p.2) (rest_else c.args.text.now c.args.at c.args.store.now c.list.new.store _ c.in_err-to.ensures)

pub returns-in_err-end : goal.returns-in_err-end
returns-in_err-end c = let p = err_from_is_err_and c.from_residual-in_err-end.result c.from_residual-in_err-end.ensures.1 in rw (p.1, p.2) (rest_stuck c.args.text.now c.args.at c.args.store.now c.list.new.store c.in_ok-to.to c.in_ok-to.cell c.in_ok-to.ensures _ c.in_err-end.ensures)

pub returns : goal.returns
returns c = rest_done c.args.text.now c.args.at c.args.store.now c.list.new.store c.in_ok-to.to c.in_ok-to.cell c.in_ok-to.ensures _ c.in_ok-end.ensures
