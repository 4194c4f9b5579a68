-- Each sweep that changes something marks a cell more; when none does, ranks of all cells, or a cell that is not marked, give the answer.
use Rattle.model.specs.Stored.{table_in}
use Rattle.classes.specs.Peel.{class_table, Peeled, undone}
use Rattle.classes.proofs.peel.acyclic.Given as goal

abbrev pub invariant-loop-rep : goal.invariant-loop-rep
invariant-loop-rep l = Peeled (class_table (table_in l.table.words) l.rep) l.done

abbrev pub decreases-loop-rep : goal.decreases-loop-rep
decreases-loop-rep l = undone l.done
