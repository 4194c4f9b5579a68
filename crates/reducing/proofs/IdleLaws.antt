-- When a cell is name 0 or composed of parts that have B, by what it is composed of.
use mathlib.Core.Path.{◌≡◌, refl, subst}
use mathlib.Core.Bool.{Bool}
use Prim.Native.Nat.{ℕ}
use Rattle.model.specs.Case as case
use Rattle.model.specs.Case.{AT}
use Rattle.model.proofs.Read.{clash}
use Rattle.theory.specs.Cells.{Makes}
use Rattle.theory.specs.Decides.{Decides}
use Rattle.theory.proofs.Decides.{decides_iff}
use Rattle.cells.specs.Cells.{MadeOf, one, two}
use Rattle.cells.specs.declared.Parts.{Parts}
use Rattle.cells.specs.declared.Parts.TheVariants as parts
use Rattle.reducing.specs.Bare.{Idle}

-- ---- composed cells
-- What makes a cell is told by the cell, and makes no name.
makes_name : {n a b : ℕ} {k : case.Cell} → Makes k a b → k ≡ AT n → ⊥
makes_name (Makes.ones s) e = clash (cc)
makes_name Makes.twos e = clash (cc)

makes_same : {k : case.Cell} {a b c d : ℕ} → Makes k a b → Makes k c d → (a ≡ c) × (b ≡ d)
makes_same (Makes.ones s) (Makes.ones s') = (refl, refl)
makes_same Makes.twos Makes.twos = (refl, refl)

module _ (B : ℕ → Type 0) {k : case.Cell} where
  idle_parts : {a b : ℕ} → Makes k a b → Idle B k → B a × B b
  idle_parts s (Idle.own e) = absurd (makes_name s e)
  idle_parts s (Idle.made s' x y) = let (i, j) = makes_same s' s in (subst B i x, subst B j y)

  pub idle_one : {p : Parts} {a : ℕ} {t : Bool} → p ≡ parts.One a → MadeOf k p → Decides t (B a) → Decides t (Idle B k)
  idle_one {p} {a} {t} e m d = go (subst (MadeOf k) e m)
    where
      go : MadeOf k (parts.One a) → Decides t (Idle B k)
      go (one z s) = decides_iff d (λ x. Idle.made s x x) (λ i. (idle_parts s i).0)

  pub idle_right : {p : Parts} {a b : ℕ} → p ≡ parts.Two a b → MadeOf k p → (B b → ⊥) → Idle B k → ⊥
  idle_right {p} {a} {b} e m never i = go (subst (MadeOf k) e m)
    where
      go : MadeOf k (parts.Two a b) → ⊥
      go (two z s) = never (idle_parts s i).1

  pub idle_two : {p : Parts} {a b : ℕ} {t : Bool} → p ≡ parts.Two a b → MadeOf k p → B b → Decides t (B a) → Decides t (Idle B k)
  idle_two {p} {a} {b} {t} e m y d = go (subst (MadeOf k) e m)
    where
      go : MadeOf k (parts.Two a b) → Decides t (Idle B k)
      go (two z s) = decides_iff d (λ x. Idle.made s x y) (λ i. (idle_parts s i).0)
