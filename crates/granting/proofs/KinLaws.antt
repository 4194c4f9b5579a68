-- Cells of one kind that does not give its parts by itself are the table's.
use mathlib.Core.List.{List}
use Prim.Native.Nat.{ℕ, ◌<◌}
use Rattle.model.specs.Case.{Cell}
use Rattle.model.specs.Stored.{table_in}
use Rattle.theory.specs.Cells.{TableWords}
use Rattle.theory.specs.Level.{Kin}
use Rattle.theory.proofs.Level.{kin_part}
use Rattle.theory.proofs.Rows.{rows_part}

pub kin_sym : {k k' : Cell} → Kin k k' → Kin k' k
kin_sym Kin.ones = Kin.ones
kin_sym (Kin.twos s) = Kin.twos s

pub kin_self : {k k' : Cell} → Kin k k' → Kin k k
kin_self Kin.ones = Kin.ones
kin_self (Kin.twos s) = Kin.twos s

pub kin_below : {n : ℕ} {words : List ℕ} → TableWords n words → (c d : ℕ) → Kin (table_in words c) (table_in words d) → (c < n) × (d < n)
kin_below w c d k =
    let (x, p) = kin_part (kin_sym k) in
    let (y, q) = kin_part k in
    ((rows_part w c x p).0, (rows_part w d y q).0)
