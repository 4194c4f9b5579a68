-- A join, the joins that it asks for, and the occurs check, each by its contract.
use mathlib.Core.Path.{◌≡◌, refl}
use mathlib.Core.Bool.{Bool, true, false}
use mathlib.Core.List.{List}
use Prim.Native.Nat.{ℕ}
use native.Mathlib.Omega.{arith}
use Rattle.std.specs.Bool.{then_some}
use Rattle.model.specs.Case.{Table}
use Rattle.theory.specs.Cells.{class_at}
use Rattle.classes.specs.Kept.{Finite, Unmet, Never, Joined}
use Rattle.classes.specs.Settle.{Settled, Unifies}
use Rattle.classes.proofs.unify.Goals as goal

module _ (n : ℕ) (T : Table) (rep joined : List ℕ) (a b : ℕ) (j : Joined n T rep a b joined) where
  never : Unmet T (class_at joined) → Never T (class_at rep) a b
  never none m mr s e = none m mr ((j.sat m).1 (s, e))

  unified : (r : Bool) (out : List ℕ) → Settled n T joined out → (r ≡ true → Finite T (class_at out)) → (r ≡ false → Unmet T (class_at out)) → Unifies n T rep a b (then_some r out)
  unified true out s fine none = record {
    solved = record { kept = s.kept; closed = s.closed; finite = fine refl };
    sat = λ m mr. (λ (l, e). (s.sat m mr).0 ((j.sat m).1 (l, e)), λ l. (j.sat m).0 ((s.sat m mr).1 l));
    most = omega (arith, s.most, j.most);
    fewer = λ ne. omega (arith, s.most, j.fewer ne);
  }
  unified false out s fine none = never (λ m mr l. none refl m mr ((s.sat m mr).0 l))

pub returns-in_err-out : goal.returns-in_err-out
returns-in_err-out c = rw c.from_residual.ensures (never _ _ _ _ _ _ c.join.ensures c.in_err-out.ensures)

pub returns : goal.returns
returns c = rw c.then_some.ensures (unified _ _ _ _ _ _ c.join.ensures c.acyclic.result _ c.in_ok-out.ensures c.acyclic.ensures.yes (λ e. (c.acyclic.ensures.no e).0))
