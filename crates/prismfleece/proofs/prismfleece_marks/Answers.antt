-- A number has room for each reply that keeps the promise.
use Rattle.prismfleece.specs.Numbers.{bytes_number}
use Rattle.prismfleece.proofs.Told.{room}
use Rattle.prismfleece.proofs.MarksLaws.{marks_fits}
use Rattle.prismfleece.proofs.prismfleece_marks.Goals as goal

pub written-requires : goal.written-requires
written-requires c = room bytes_number c.build_marks.result (marks_fits _ _ c.build_marks.result _ c.build_marks.ensures)
