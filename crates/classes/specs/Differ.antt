-- How two cells differ, by the classes of their parts.
-- Facing: parts at the same place; Told: what a comparison of two cells answers; PartTold: the same for one part of each.
use Rattle.std.specs.Prelude.{◌≡◌, ℕ}
use Rattle.model.specs.Message.{One, Two}
use Rattle.model.specs.Case.{Cell, ONE, TWO}
use Rattle.theory.specs.Classes.{Alike}
use Rattle.classes.specs.declared.alike.Diff.{Diff}
use Rattle.classes.specs.declared.alike.Diff.TheVariants.{Same, Clash, Parts}

-- `Facing k k' x y`: x and y are parts at the same place of two cells of one kind and function.
pub data Facing : Cell → Cell → ℕ → ℕ → Type 0 where
  args : {g : One} {a a' : ℕ} → Facing (ONE g a) (ONE g a') a a'
  lefts : {h : Two} {l r l' r' : ℕ} → Facing (TWO h l r) (TWO h l' r') l l'
  rights : {h : Two} {l r l' r' : ℕ} → Facing (TWO h l r) (TWO h l' r') r r'

-- Same: the cells are alike by the classes cls. Clash: they are of another kind, name or function. Else the answer has parts at one place that are of two classes.
abbrev pub Told : (ℕ → ℕ) → Cell → Cell → Diff → Type 0
Told cls k k' Same = Alike cls k k'
Told cls k k' Clash = Alike {A = Unit} (λ d. tt) k k' → ⊥
Told cls k k' (Parts x y) = Facing k k' x y × (cls x ≡ cls y → ⊥)

-- The same for a part x of the one cell and a part y of the other.
abbrev pub PartTold : (ℕ → ℕ) → ℕ → ℕ → Diff → Type 0
PartTold cls x y Same = cls x ≡ cls y
PartTold cls x y Clash = ⊥
PartTold cls x y (Parts u v) = (u ≡ x) × (v ≡ y) × (cls x ≡ cls y → ⊥)
