-- The records of the cells before c stand in the buffer, up to `at`.
use mathlib.Core.Path.{◌≡◌, refl, sym, ap, ◌∙◌}
use Prim.Native.Nat.{◌+◌}
use native.Mathlib.Omega.{arith}
use lib.Seq.{sets}
use lib.ListN.{length}
use Rattle.model.specs.Stored.{table_in}
use Rattle.model.specs.Format.{cell_bytes}
use Rattle.records.proofs.Rows.{sets_kept}
use Rattle.typing.proofs.FileLaws.{row, row_none, row_length, row_grows, row_put}
use Rattle.typing.proofs.file.put_cells.Goals as goal

pub loop-c-init : goal.loop-c-init
loop-c-init c =
    let none = sym (row_none cell_bytes (table_in c.args.table.now)) in
    (ap length none, ap (sets c.args.out.now 0) none, refl)

pub put_cell-requires : goal.put_cell-requires
put_cell-requires c =
    omega
    (arith, ap (λ k. length (cell_bytes k)) c.cell_at-k.ensures, row_length cell_bytes (table_in c.args.table.now) c.loop-c.c, row_grows cell_bytes (table_in c.args.table.now) (c.loop-c.c + 1) c.args.n (omega arith))

pub overflow_add-at : goal.overflow_add-at
overflow_add-at c =
    omega
    (arith, ap (λ k. length (cell_bytes k)) c.cell_at-k.ensures, row_length cell_bytes (table_in c.args.table.now) c.loop-c.c, row_grows cell_bytes (table_in c.args.table.now) (c.loop-c.c + 1) c.args.n (omega arith))

pub loop-c-preserved : goal.loop-c-preserved
loop-c-preserved c =
    let z : c.loop-c.at ≡ 0 + length (row cell_bytes (table_in c.args.table.now) c.loop-c.c) = omega arith in
    let g = c.put_cell.ensures ∙ ap (λ k. sets c.loop-c.out c.loop-c.at (cell_bytes k)) c.cell_at-k.ensures in
    (omega (arith, ap (λ k. length (cell_bytes k)) c.cell_at-k.ensures, row_length cell_bytes (table_in c.args.table.now) c.loop-c.c), row_put cell_bytes (table_in c.args.table.now) c.args.out.now c.loop-c.out _ 0 c.loop-c.at c.loop-c.c z c.loop-c.invariant.1 g, sets_kept (length c.args.out.now) c.loop-c.out _ c.loop-c.at (cell_bytes (table_in c.args.table.now c.loop-c.c)) c.loop-c.invariant.2 g)
