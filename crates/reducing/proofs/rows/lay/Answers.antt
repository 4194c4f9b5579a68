-- The cells below i are told; each turn adds one behind them.
use mathlib.Core.Path.{◌≡◌, sym, ◌∙◌, ap, subst}
use native.Mathlib.Omega.{arith}
use lib.ListN.{length, get_or}
use Rattle.model.specs.Stored.{table_in}
use Rattle.cells.specs.Cells.{as_cell}
use Rattle.reducing.specs.Order.{number_at, placed}
use Rattle.reducing.specs.Plan.{Laid, put_row}
use Rattle.reducing.proofs.PlanLaws.{laid_start, laid_put}
use borrow.Author.Rules.{rules}
use Rattle.reducing.proofs.rows.lay.Goals as goal

pub loop-i-init : goal.loop-i-init
loop-i-init c =
    let size : length c.args.bare.now ≡ 129 = search rules in (
      subst (Laid c.args.words.now c.args.rep.now c.args.numbers.now.old c.args.numbers.now.new c.args.bare.now 0) (sym c.empty_plan-plan.ensures)
          (laid_start c.args.words.now c.args.rep.now c.args.numbers.now.old c.args.numbers.now.new c.args.bare.now),
      size,
    )

pub loop-i-preserved : goal.loop-i-preserved
loop-i-preserved c =
    let words = c.args.words.now in
    let f = number_at c.args.rep.now c.args.numbers.now.new in
    let e : c.from-c.result ≡ get_or c.args.numbers.now.old c.loop-i.i 0 = cc in (
      laid_put c.args.words.now c.args.rep.now c.args.numbers.now.old c.args.numbers.now.new c.args.bare.now c.loop-i.i c.loop-i.plan c.loop-i.invariant.0 (omega (arith, c.loop-i-test.true, c.requires.count_bound.0))
          (as_cell c.renumbered-k.result) c.word_of.result c.put_row.new.plan
          (c.renumbered-k.ensures.placed ∙ (ap (placed f) c.cell_at.ensures ∙ ap (λ i. placed f (table_in words i)) e)) c.renumbered-k.ensures.stored c.word_of.ensures (c.put_row.ensures ∙ ap (λ i. put_row c.loop-i.plan c.word_of.result (get_or c.args.bare.now i 0)) e),
      c.loop-i.invariant.1,
    )
