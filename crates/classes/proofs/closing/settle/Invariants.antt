-- Each sweep that changes something lowers the number of classes; one that changes nothing leaves closed classes.
use Rattle.model.specs.Stored.{table_in}
use Rattle.classes.specs.Kept.{Kept, class_count}
use Rattle.classes.proofs.SettleLaws.{Stage}
use Rattle.classes.proofs.closing.settle.Given as goal

abbrev pub invariant-loop : goal.invariant-loop
invariant-loop l = Stage (table_in l.table.words) (Kept l.table.count (table_in l.table.words)) l.initial.rep l.rep

abbrev pub decreases-loop : goal.decreases-loop
decreases-loop l = class_count l.rep
