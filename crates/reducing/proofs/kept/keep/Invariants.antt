-- Parts stand lower: from the last cell down, what is marked from c on is closed under parts.
use Prim.Native.Nat.{◌≤◌}
use Rattle.model.specs.Stored.{table_in}
use Rattle.reducing.proofs.KeepLaws.{Keeping}
use Rattle.reducing.proofs.kept.keep.Given as goal

abbrev pub invariant-loop-c : goal.invariant-loop-c
invariant-loop-c l = (l.c ≤ l.table.count) × Keeping (table_in l.table.words) l.rep l.initial.marks l.c l.marks

abbrev pub decreases-loop-c : goal.decreases-loop-c
decreases-loop-c l = l.c
