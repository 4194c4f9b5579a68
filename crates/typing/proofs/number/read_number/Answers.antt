-- The digits so far are those of n.
use mathlib.Core.Logic.{inl, inr}
use native.Mathlib.Omega.{arith}
use Rattle.typing.proofs.NumberLaws.{digit_not, number_none, number_first, number_more, number_done, number_ends}
use Rattle.typing.proofs.number.read_number.Goals as goal

pub returns-in_default : goal.returns-in_default
returns-in_default c = number_none c.args.text.now c.args.at c.args.bound _ c.wrong.ensures (digit_not c.args.text.now c.args.at c.in_default.ensures)

pub loop-c-init : goal.loop-c-init
loop-c-init c = rw c.from-n.ensures (omega (arith, c.in-Some.ensures.2, c.requires.le_bound), omega (arith, c.in-Some.ensures.0), omega arith, number_first c.args.text.now c.args.at c.args.bound _ c.in-Some.ensures)

pub returns-then-n-eq0 : goal.returns-then-n-eq0
returns-then-n-eq0 c = number_ends c.args.text.now c.args.at c.args.bound c.loop-c.i c.loop-c.n c.loop-c.invariant.3 _ c.wrong-then-n-eq0.ensures _ c.loop-c.invariant.0 c.in-Some-digit_at.ensures (elim c.then-n-eq0.either [ inl z ↦ inl z | inr x ↦ inr (omega (arith, x.1, c.from.ensures)) ])

pub loop-c-preserved : goal.loop-c-preserved
loop-c-preserved c = rw c.from.ensures (omega (arith, c.if-bound-more.false, c.from.ensures), omega (arith, c.in-Some-digit_at.ensures.0), omega (arith, c.loop-c.invariant.2), number_more c.args.text.now c.args.at c.args.bound c.loop-c.i c.loop-c.n c.loop-c.invariant.3 _ (omega (arith, c.if-n-eq0.false)) c.in-Some-digit_at.ensures)

pub returns : goal.returns
returns c = number_done c.args.text.now c.args.at c.args.bound c.loop-c.i c.loop-c.n c.loop-c.invariant.3 c.loop-c.invariant.0 (digit_not c.args.text.now c.loop-c.i c.in_default-digit_at.ensures)
