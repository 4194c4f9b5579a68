-- A case for each test.
use mathlib.Core.Path.{◌∙◌, ap}
use Rattle.theory.specs.Cells.{class_at}
use Rattle.theory.proofs.Decides.{decides_eqb}
use Rattle.wants.proofs.StartLaws.{unsealed, locked_seal, key_unseen, key_unsealed, key_pick}
use Rattle.wants.proofs.starts.key_at.Goals as goal

pub returns-then-seen-c-ne1 : goal.returns-then-seen-c-ne1
returns-then-seen-c-ne1 c = key_unseen c.if-seen-c-ne1.true

pub returns-in-Shut : goal.returns-in-Shut
returns-in-Shut c =
    key_unsealed (unsealed c.cell_at.ensures c.opens.ensures c.in-Shut.is)

pub returns-in-Locked : goal.returns-in-Locked
returns-in-Locked c =
    rw c.then_some.ensures (key_pick (locked_seal c.cell_at.ensures c.opens.ensures c.in-Locked.is)
    (c.class_of-k.ensures ∙ ap (class_at c.args.rep.now) c.cell.ensures) _ (decides_eqb _ 1 (λ x. x) (λ x. x)))
