-- Parts stand lower: the heights below c are there when that of c is asked, and none is above c.
use Rattle.model.specs.Stored.{table_in}
use Rattle.reducing.proofs.HeightLaws.{Climbed}
use Rattle.reducing.proofs.height.heights.Given as goal

abbrev pub invariant-loop-c : goal.invariant-loop-c
invariant-loop-c l = Climbed (table_in l.table.words) l.c l.high
