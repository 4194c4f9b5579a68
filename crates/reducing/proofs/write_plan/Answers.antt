-- What is written second begins where the first ends.
use mathlib.Core.Path.{refl}
use native.Mathlib.Omega.{arith}
use lib.ListN.{length}
use Rattle.model.specs.Format.{cell_bytes, joined}
use Rattle.reducing.specs.Plan.{planned}
use Rattle.records.proofs.Rows.{sets_kept}
use Rattle.reducing.proofs.BytesLaws.{file_length, file_written}
use Rattle.reducing.proofs.write_plan.Goals as goal

pub write_cells-requires : goal.write_cells-requires
write_cells-requires c = (c.requires.0, omega (arith, c.requires.1, file_length c.args.plan.now c.requires.0))

pub write_events-requires : goal.write_events-requires
write_events-requires c =
    let k = sets_kept (length c.args.out.now) c.args.out.now _ 0 (joined cell_bytes (planned c.args.plan.now).cells) refl c.write_cells.ensures in
    (c.requires.0, omega (arith, c.requires.1, file_length c.args.plan.now c.requires.0, k))

pub returns : goal.returns
returns c = file_written c.args.plan.now c.requires.0 c.args.out.now _ _ c.requires.1 c.write_cells.ensures c.write_events.ensures
