-- A number has room for each reply that keeps the promise.
use Rattle.prismfleece.specs.Numbers.{bytes_number}
use Rattle.prismfleece.proofs.Told.{room}
use Rattle.prismfleece.proofs.ReduceLaws.{reduce_fits}
use Rattle.prismfleece.proofs.prismfleece_reduce.Goals as goal

pub written-requires : goal.written-requires
written-requires c = room bytes_number c.reduce.result (reduce_fits _ _ c.reduce.result _ c.reduce.ensures)
