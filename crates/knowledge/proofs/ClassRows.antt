-- The class array of a table keeps what the marks on its classes stand on.
use mathlib.Core.List.{List}
use Prim.Native.Nat.{ℕ}
use Rattle.model.specs.Stored.{table_in}
use Rattle.theory.specs.Cells.{TableWords}
use Rattle.classes.specs.Kept.{Kept}
use Rattle.classes.proofs.SolvedLaws.{kept_beyond, kept_small}
use Rattle.knowledge.specs.Knowledge.{ClassRow}

pub kept_row : {n : ℕ} {words rep : List ℕ} → TableWords n words → Kept n (table_in words) rep → ClassRow n rep
kept_row w k = record { idem = k.reps.idem; low = kept_small w k; beyond = kept_beyond w k }
