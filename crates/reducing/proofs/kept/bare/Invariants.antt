-- The marks below c are exact, and each turn tells one cell more.
use Rattle.model.specs.Stored.{table_in}
use Rattle.reducing.specs.Bare.{Bares}
use Rattle.reducing.proofs.kept.bare.Given as goal

abbrev pub invariant-loop-c : goal.invariant-loop-c
invariant-loop-c l = Bares (table_in l.table.words) l.rep l.built l.c l.marks
