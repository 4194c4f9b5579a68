-- The loop's invariant: of the marked cells from the counter up to c the parts are marked; parts are lower, so at 0 all that stands in c is marked.
use Rattle.model.specs.Stored.{table_in}
use Rattle.casefile.proofs.WithinLaws.{Descent}
use Rattle.casefile.proofs.rest.mark_within.Given as goal

abbrev pub invariant-loop-i : goal.invariant-loop-i
invariant-loop-i l = Descent (table_in l.table.words) l.c l.initial.marks l.i l.marks
