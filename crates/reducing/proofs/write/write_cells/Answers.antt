-- The records of the cells below i stand in the buffer; the next goes to 4 * i, where they end.
use Prim.Native.Nat.{◌*◌}
use mathlib.Core.Path.{refl, ap, ◌∙◌}
use lib.ListN.{length}
use lib.Seq.{sets}
use Rattle.model.specs.Format.{cell_bytes, joined}
use Rattle.model.specs.Stored.{table_in}
use Rattle.records.proofs.Rows.{sets_kept}
use Rattle.reducing.specs.Plan.{up_to}
use Rattle.reducing.proofs.BytesLaws.{cells_next}
use Rattle.reducing.proofs.write.write_cells.Goals as goal

pub loop-i-init : goal.loop-i-init
unfolding up_to joined
loop-i-init c = (refl, refl)

pub loop-i-preserved : goal.loop-i-preserved
loop-i-preserved c =
    let p = c.args.plan.now in
    let put = c.put_cell.ensures ∙ ap (λ k. sets c.loop-i.out (4 * c.loop-i.i) (cell_bytes k)) c.cell_at.ensures in (
      cells_next p.table c.args.out.now c.loop-i.out _ c.loop-i.i p.cells c.loop-i-test.true c.requires.0.solid c.loop-i.invariant.0 put,
      sets_kept (length c.args.out.now) c.loop-i.out _ (4 * c.loop-i.i) (cell_bytes (table_in p.table c.loop-i.i)) c.loop-i.invariant.1 put,
    )
