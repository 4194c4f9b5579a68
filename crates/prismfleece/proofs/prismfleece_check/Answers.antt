-- A number has room for each reply that keeps the promise.
use Rattle.std.specs.Prelude.{Err}
use Rattle.prismfleece.specs.Numbers.{right_number}
use Rattle.prismfleece.proofs.Told.{room}
use Rattle.prismfleece.proofs.CheckLaws.{check_fits}
use Rattle.prismfleece.proofs.prismfleece_check.Goals as goal

pub refusal-requires : goal.refusal-requires
refusal-requires c = room right_number (Err c.in-Err.refused) (check_fits _ _ (Err c.in-Err.refused) c.in-Err.ensures)
