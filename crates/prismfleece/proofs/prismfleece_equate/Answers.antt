-- A number has room for each reply that keeps the promise.
use Rattle.prismfleece.specs.Numbers.{list_number}
use Rattle.prismfleece.proofs.Told.{room}
use Rattle.prismfleece.proofs.EquateLaws.{equate_fits}
use Rattle.prismfleece.proofs.prismfleece_equate.Goals as goal

pub listed-requires : goal.listed-requires
listed-requires c = room list_number c.equate.result (equate_fits _ _ _ _ c.equate.result _ c.equate.ensures)
