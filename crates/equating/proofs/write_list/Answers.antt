-- The loop's invariant: the entries of the cells below i stand at the front of the buffer, and the bytes beyond are as they were.
use mathlib.Core.Path.{refl, ◌∙◌}
use native.Mathlib.Omega.{arith}
use lib.ListN.{length-set}
use Rattle.model.specs.Stored.{table_in}
use Rattle.equating.proofs.ListLaws.{list_of_none, list_of_next}
use Rattle.equating.proofs.write_list.Goals as goal

pub loop-i-init : goal.loop-i-init
loop-i-init c = (list_of_none (table_in c.args.words.now) c.args.rep.now c.args.out.now, refl)

pub loop-i-preserved : goal.loop-i-preserved
loop-i-preserved c = (
  rw (c.loop-i.invariant.0, c.entry.ensures) (list_of_next (table_in c.args.words.now) c.args.rep.now c.args.out.now c.loop-i.i (omega arith)),
  length-set c.loop-i.out c.loop-i.i c.entry.result ∙ c.loop-i.invariant.1,
)
