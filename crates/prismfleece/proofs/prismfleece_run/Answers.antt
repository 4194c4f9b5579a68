-- A number has room for each reply that keeps the promise.
use Rattle.prismfleece.specs.Numbers.{list_number}
use Rattle.prismfleece.proofs.Told.{room}
use Rattle.prismfleece.proofs.RunLaws.{run_fits}
use Rattle.prismfleece.proofs.prismfleece_run.Goals as goal

pub listed-requires : goal.listed-requires
listed-requires c = room list_number c.run.result (run_fits _ _ c.run.result _ c.run.ensures)
