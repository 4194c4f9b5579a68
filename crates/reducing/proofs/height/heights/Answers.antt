-- Parts stand lower: the heights below c are there when that of c is asked, and none is above c.
use mathlib.Core.Path.{◌≡◌, ◌∙◌, ap, subst}
use native.Mathlib.Omega.{arith}
use lib.ListN.{get_or}
use Rattle.model.specs.Stored.{table_in}
use Rattle.reducing.specs.Bare.{height_at}
use Rattle.reducing.proofs.HeightLaws.{Climbed, climbed_start, climbed_next, climbed_end}
use Rattle.reducing.proofs.height.heights.Goals as goal

pub loop-c-init : goal.loop-c-init
loop-c-init c = climbed_start (table_in c.args.table.now.words)

pub loop-c-preserved : goal.loop-c-preserved
loop-c-preserved c =
    climbed_next c.args.table.now.count c.args.table.now.words c.args.table.now.formed c.loop-c.c c.loop-c.high c.loop-c.invariant (omega (arith, c.args.table.now.formed.few)) c.height_of.result
    (c.height_of.ensures ∙ ap (height_at (λ d. get_or c.loop-c.high d 0)) c.cell_at.ensures)

pub returns : goal.returns
returns c =
    let z : c.loop-c.c ≡ c.args.table.now.count = omega arith in
    climbed_end c.args.table.now.count c.args.table.now.words c.args.table.now.formed c.loop-c.high (subst (λ i. Climbed (table_in c.args.table.now.words) i c.loop-c.high) z c.loop-c.invariant)
