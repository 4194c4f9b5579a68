-- The three tests are the three parts of `IsBare`.
use mathlib.Core.Path.{◌≡◌, sym, ◌∙◌, subst}
use native.Mathlib.Omega.{arith}
use borrow.Author.Tests.{eqb-true}
use Rattle.theory.specs.Cells.{On}
use Rattle.theory.proofs.Decides.{decides_not, decides_iff}
use Rattle.reducing.proofs.kept.is_bare.Goals as goal
use Rattle.reducing.proofs.kept.is_bare.Goals.{then-z-c, else-z-c}

pub returns-then-built-z-eq1 : goal.returns-then-built-z-eq1
returns-then-built-z-eq1 c =
    elim c.if-z-c.branch [
      | then-z-c w ↦ (
          let e = eqb-true _ _ (sym w.value-is ∙ c.if-built-z-eq1.true) in
          let i : c.class_of-z.result ≡ c.args.c = omega arith in
          decides_iff (decides_not c.is_idle.ensures) (λ h. (omega arith, subst (On c.args.built.now) i e, h)) (λ (e, b, h). h))
      | else-z-c w ↦ absurd (w.if-z-c.false (eqb-true _ _ (sym w.value-is ∙ c.if-built-z-eq1.true)))
    ]
