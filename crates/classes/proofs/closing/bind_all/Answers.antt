-- The loop's invariant: the classes have moved by joins alone, and if by none, the cells from c on ask for nothing. A step joins, or goes one cell down.
use native.Mathlib.Omega.{arith}
use Rattle.std.proofs.lemmas.Result.{err_from_is_err_and}
use Rattle.classes.proofs.SettleLaws.{sweeping_more, sweeping_stay, sweeping_no}
use Rattle.classes.proofs.closing.bind_all.Goals as goal

pub returns-in_err-bind : goal.returns-in_err-bind
returns-in_err-bind c = let p = err_from_is_err_and c.from_residual.result c.from_residual.ensures.1 in rw p.1 (sweeping_no c.loop-c.invariant.0 c.in_err-bind.ensures)

pub loop-c-preserved-then-branch : goal.loop-c-preserved-then-branch
loop-c-preserved-then-branch c = (sweeping_more c.loop-c.invariant.0 c.in_ok-bind.ensures.0 c.if-branch.true, omega arith)

pub loop-c-preserved : goal.loop-c-preserved
loop-c-preserved c = (sweeping_stay c.loop-c.invariant.0 c.in_ok-bind.ensures.0 c.if-branch.false (c.in_ok-bind.ensures.1 c.if-branch.false), omega arith)
