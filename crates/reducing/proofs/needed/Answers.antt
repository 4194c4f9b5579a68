-- Four bytes for a cell, three for an event, two for the end.
use mathlib.Core.Path.{refl}
use native.Mathlib.Omega.{arith}
use Rattle.reducing.proofs.PlanLaws.{marked_few}
use Rattle.reducing.proofs.BytesLaws.{file_length}
use Rattle.reducing.proofs.needed.Goals as goal

pub overflow_mul-result-2 : goal.overflow_mul-result-2
overflow_mul-result-2 c = omega (arith, c.requires.few, c.requires.counts, marked_few c.args.plan.now.learnt c.args.plan.now.cells)

pub overflow_add-result : goal.overflow_add-result
overflow_add-result c = omega (arith, c.requires.few, c.requires.counts, marked_few c.args.plan.now.learnt c.args.plan.now.cells)

pub overflow_add-result-2 : goal.overflow_add-result-2
overflow_add-result-2 c = omega (arith, c.requires.few, c.requires.counts, marked_few c.args.plan.now.learnt c.args.plan.now.cells)

pub returns : goal.returns
returns c = (refl, file_length c.args.plan.now c.requires)
