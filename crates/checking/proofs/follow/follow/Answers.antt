-- The entries as equalities, the joins that they ask for, and the occurs check, each by its contract.
use mathlib.Core.Path.{◌≡◌, refl}
use mathlib.Core.Bool.{Bool, true, false}
use mathlib.Core.List.{List}
use Prim.Native.Nat.{ℕ}
use Rattle.std.specs.Bool.{then_some}
use Rattle.std.specs.Prelude.{None}
use Rattle.model.specs.Case.{Table}
use Rattle.theory.specs.Cells.{class_at}
use Rattle.classes.specs.Kept.{Finite, Unmet}
use Rattle.classes.specs.Settle.{Settled}
use Rattle.checking.specs.Follow.{Gathers, Follows}
use Rattle.checking.proofs.follow.follow.Goals as goal

module _ (n : ℕ) (T : Table) (list gathered : List ℕ) (g : Gathers n T list gathered) where
  none_follow : Unmet T (class_at gathered) → Follows n T list None
  none_follow none m mr l = none m mr ((g.sat m mr).0 l)

  followed : (r : Bool) (out : List ℕ) → Settled n T gathered out → (r ≡ true → Finite T (class_at out)) → (r ≡ false → Unmet T (class_at out)) → Follows n T list (then_some r out)
  followed true out s fine none = record {
    solved = record { kept = s.kept; closed = s.closed; finite = fine refl };
    sat = λ m mr. (λ l. (s.sat m mr).0 ((g.sat m mr).0 l), λ h. (g.sat m mr).1 ((s.sat m mr).1 h));
  }
  followed false out s fine none = none_follow (λ m mr h. none refl m mr ((s.sat m mr).0 h))

pub returns-in_err-rep : goal.returns-in_err-rep
returns-in_err-rep c = rw c.from_residual.ensures (none_follow _ _ _ _ c.gather.ensures c.in_err-rep.ensures)

pub returns : goal.returns
returns c = rw c.then_some.ensures (followed _ _ _ _ c.gather.ensures c.acyclic.result _ c.in_ok-rep.ensures c.acyclic.ensures.yes (λ e. (c.acyclic.ensures.no e).0))
