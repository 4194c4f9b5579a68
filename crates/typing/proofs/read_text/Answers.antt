-- The lines before `at` say entries, which are kept.
use native.Mathlib.Omega.{arith}
use Rattle.std.proofs.lemmas.Result.{err_from_is_err_and}
use Rattle.grammar.specs.Text.{said}
use Rattle.typing.proofs.TakeLaws.{text_start, text_refused, text_behind, text_next, text_end}
use Rattle.typing.proofs.read_text.Goals as goal

pub loop-at-init : goal.loop-at-init
loop-at-init c = text_start c.args.text.now _ c.no_lines-lines.ensures

pub returns-in_err-at : goal.returns-in_err-at
returns-in_err-at c = let p = err_from_is_err_and c.from_residual.result c.from_residual.ensures.1 in rw (p.1, p.2) (text_refused c.args.text.now c.loop-at.lines c.loop-at.at c.loop-at.invariant c.loop-at.lines c.args.out.now _ c.in_err-at.ensures)

pub loop-at-smaller : goal.loop-at-smaller
loop-at-smaller c = omega (arith, c.loop-at-test.true, text_behind c.args.text.now c.loop-at.lines c.loop-at.at c.loop-at.invariant c.read_line.new.lines _ c.in_ok-at.ensures)

pub loop-at-preserved : goal.loop-at-preserved
loop-at-preserved c = text_next c.args.text.now c.loop-at.lines c.loop-at.at c.loop-at.invariant c.read_line.new.lines _ c.in_ok-at.ensures

pub write_file-requires : goal.write_file-requires
write_file-requires c = (omega (arith, c.loop-at.invariant.kept.cells.counts, c.loop-at.invariant.kept.cells.room), omega (arith, c.loop-at.invariant.kept.counts, c.loop-at.invariant.kept.few))

pub returns : goal.returns
returns c = record { outcome = said c.loop-at.invariant.entries; told = text_end c.args.text.now c.loop-at.lines c.loop-at.at c.loop-at.invariant c.loop-at-test.false; replied = c.write_file.ensures c.loop-at.invariant.entries c.loop-at.invariant.kept }
