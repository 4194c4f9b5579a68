-- 4 first, then 6.
use Rattle.typing.proofs.TakeLaws.{take_full, take_many, take_loose, take_line}
use Rattle.typing.proofs.line.take.Goals.{then-lines-via-then-lines, then-lines-via-else-lines+then-lines-ge128}
use Rattle.typing.proofs.line.take.Goals as goal

pub returns-then-lines : goal.returns-then-lines
returns-then-lines c = elim c.then-lines.branch [ then-lines-via-then-lines w ↦ take_full c.args.lines.now c.args.from c.args.event c.args.at c.args.to w.if-lines.true c.args.lines.now | then-lines-via-else-lines+then-lines-ge128 w ↦ take_many c.args.lines.now c.args.from c.args.event c.args.at c.args.to w.if-lines-ge128.true c.args.lines.now ]

pub returns-then-is_loose : goal.returns-then-is_loose
returns-then-is_loose c = take_loose c.args.lines.now c.args.from c.args.event c.args.at c.args.to c.if-lines.false c.if-lines-ge128.false c.if-is_loose.ensures c.args.lines.now

pub returns : goal.returns
returns c = take_line c.args.lines.now c.args.from c.args.event c.args.at c.args.to c.if-lines.false c.if-lines-ge128.false c.if-is_loose.ensures _ c.with_event.ensures
