-- A pair is no kin; else the cells held against each other tell.
use mathlib.Core.Logic.{inl, inr}
use Rattle.theory.proofs.Decides.{decides_yes, decides_no}
use Rattle.cells.proofs.CellLaws.{not_open, kin_open, kin_unlike, kin_same, kin_one, kin_two}
use Rattle.cells.proofs.kin.Goals as goal

pub returns-in-Open : goal.returns-in-Open
returns-in-Open c = decides_no (kin_open c.in-Open.is c.opens.ensures)

pub returns-in-Unlike : goal.returns-in-Unlike
returns-in-Unlike c = decides_no λ y. elim c.in-Unlike.is [ inl e ↦ kin_unlike e c.meet.ensures y | inr e ↦ kin_same e c.meet.ensures y ]

pub returns-in-One : goal.returns-in-One
returns-in-One c = decides_yes (elim c.in-One.is [
  | inl (_, _, e) ↦ kin_one e c.meet.ensures
  | inr (_, _, _, _, e) ↦ kin_two (not_open c.opens.result c.in-Shut.is c.opens.ensures) e c.meet.ensures
])
