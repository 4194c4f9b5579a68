-- A cell by its parts, and by what it is composed of.
use mathlib.Core.Path.{◌≡◌, subst}
use Prim.Native.Nat.{ℕ, ◌≤◌}
use Rattle.model.specs.Message.{One, Two}
use Rattle.model.specs.Case as case
use Rattle.model.specs.Case.{AT, VA, ONE, TWO, Part, in_arg, in_left, in_right}
use Rattle.model.proofs.Read.{clash}
use Rattle.theory.specs.Cells.{Makes}
use Rattle.cells.specs.Cells.{as_cell, parts_of, MadeOf, one, two}
use Rattle.cells.specs.declared.Cell.{Cell}
use Rattle.cells.specs.declared.Cell.TheVariants as cell
use Rattle.cells.specs.declared.Parts.{Parts}
use Rattle.cells.specs.declared.Parts.TheVariants as parts
use Rattle.reducing.specs.Given.{LowParts}

pub parts_none : (k : case.Cell) → parts_of k ≡ parts.None → (d : ℕ) → Part k d → ⊥
parts_none (AT n) e d p = elim p [ ]
parts_none VA e d p = elim p [ ]
parts_none (ONE g a) e d p = clash (cc)
parts_none (TWO h l r) e d p = clash (cc)

pub parts_one : (k : case.Cell) {a : ℕ} → parts_of k ≡ parts.One a → (g : One) × (k ≡ ONE g a)
parts_one (AT n) e = clash (cc)
parts_one VA e = clash (cc)
parts_one (ONE g x) e = (g, cc)
parts_one (TWO h l r) e = clash (cc)

pub parts_two : (k : case.Cell) {a b : ℕ} → parts_of k ≡ parts.Two a b → (h : Two) × (k ≡ TWO h a b)
parts_two (AT n) e = clash (cc)
parts_two VA e = clash (cc)
parts_two (ONE g a) e = clash (cc)
parts_two (TWO h l r) e = (h, cc)

-- ---- low parts
makes_parts : {k : case.Cell} {a b : ℕ} → Makes k a b → Part k a × Part k b
makes_parts (Makes.ones s) = (in_arg, in_arg)
makes_parts Makes.twos = (in_left, in_right)

module _ {k : Cell} (low : LowParts (as_cell k)) where
  pub low_pair : {a b : ℕ} → k ≡ cell.Pair a b → (a ≤ 128) × (b ≤ 128)
  low_pair {a} {b} e = (low a (rw e in_left), low b (rw e in_right))

  pub low_seal : {a b : ℕ} → k ≡ cell.Seal a b → (a ≤ 128) × (b ≤ 128)
  low_seal {a} {b} e = (low a (rw e in_left), low b (rw e in_right))

  pub low_apply : {f a : ℕ} → k ≡ cell.Apply f a → a ≤ 128
  low_apply {f} {a} e = low a (rw e in_arg)

module _ {k : case.Cell} (low : LowParts k) where
  pub low_one : {a : ℕ} → parts_of k ≡ parts.One a → a ≤ 128
  low_one {a} e = let (g, z) = parts_one k e in low a (rw z in_arg)

  pub low_two : {a b : ℕ} → parts_of k ≡ parts.Two a b → (a ≤ 128) × (b ≤ 128)
  low_two {a} {b} e = let (h, z) = parts_two k e in (low a (rw z in_left), low b (rw z in_right))

  pub low_made_one : {p : Parts} {a : ℕ} → p ≡ parts.One a → MadeOf k p → a ≤ 128
  low_made_one {p} {a} e m = go (subst (MadeOf k) e m)
    where
      go : MadeOf k (parts.One a) → a ≤ 128
      go (one z s) = low a (makes_parts s).0

  pub low_made_two : {p : Parts} {a b : ℕ} → p ≡ parts.Two a b → MadeOf k p → (a ≤ 128) × (b ≤ 128)
  low_made_two {p} {a} {b} e m = go (subst (MadeOf k) e m)
    where
      go : MadeOf k (parts.Two a b) → (a ≤ 128) × (b ≤ 128)
      go (two z s) = (low a (makes_parts s).0, low b (makes_parts s).1)
