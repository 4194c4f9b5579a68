-- What holds of one cell, by its kind: its parts, and whether it is given, is made, and gives its parts.
use mathlib.Core.Path.{◌≡◌, refl, sym, subst}
use mathlib.Core.Bool.{Bool, true, false}
use mathlib.Core.Logic.{◌⊎◌, inl, inr}
use mathlib.Core.List.{List}
use Prim.Native.Nat.{ℕ, ◌≤◌, ◌<◌}
use native.Mathlib.Omega.{arith}
use lib.Dec.{eqb}
use Rattle.model.specs.Case as case
use Rattle.model.specs.Case.{AT, VA, ONE, TWO, SE, Part, in_arg, in_left, in_right}
use Rattle.model.proofs.Read.{clash}
use Rattle.theory.specs.Cells.{Makes, class_at, On}
use Rattle.theory.specs.Decides.{Decides}
use Rattle.theory.proofs.Decides.{decides_yes, decides_no, decides_eqb, decides_iff}
use Rattle.theory.proofs.Parts.{makes_parts, makes_one}
use Rattle.cells.specs.Cells.{as_cell, MadeOf, Opens, one, two, shut, open_pair, locked}
use Rattle.cells.specs.declared.Cell.{Cell}
use Rattle.cells.specs.declared.Cell.TheVariants as cell
use Rattle.cells.specs.declared.Parts.{Parts}
use Rattle.cells.specs.declared.Parts.TheVariants as parts
use Rattle.cells.specs.declared.Opening.{Opening}
use Rattle.cells.specs.declared.Opening.TheVariants as opening
use Rattle.knowledge.specs.Sweeps.{left_part, right_part, Given, MadeBy, Gives}

-- ---- parts

pub left_low : (k : case.Cell) (c : ℕ) → ((d : ℕ) → Part k d → d < c) → left_part k c ≤ c
left_low (AT n) c low = omega arith
left_low VA c low = omega arith
left_low (ONE g a) c low = omega (arith, low a in_arg)
left_low (TWO h l r) c low = omega (arith, low l in_left)

pub right_low : (k : case.Cell) (c : ℕ) → ((d : ℕ) → Part k d → d < c) → right_part k c ≤ c
right_low (AT n) c low = omega arith
right_low VA c low = omega arith
right_low (ONE g a) c low = omega (arith, low a in_arg)
right_low (TWO h l r) c low = omega (arith, low r in_right)

-- What makes a cell are its parts, and it has no others.
pub makes_ends : {k : case.Cell} {i j : ℕ} (c : ℕ) → Makes k i j → (left_part k c ≡ i) × (right_part k c ≡ j)
makes_ends c (Makes.ones s) = (refl, refl)
makes_ends c Makes.twos = (refl, refl)

pub part_ends : {k : case.Cell} {d : ℕ} (c : ℕ) → Part k d → (left_part k c ≡ d) ⊎ (right_part k c ≡ d)
part_ends c in_arg = inl refl
part_ends c in_left = inl refl
part_ends c in_right = inr refl

-- ---- is it given?

module _ {k : Cell} where
  pub given_name : {n : ℕ} → k ≡ cell.Atom n → Decides (eqb n 0) (Given (as_cell k))
  given_name {n} e = rw e (decides_eqb n 0 (λ z. subst (λ i. Given (AT i)) (sym z) Given.zero) only)
    where
      only : {n : ℕ} → Given (AT n) → n ≡ 0
      only Given.zero = refl

  pub given_variable : k ≡ cell.Variable → Decides true (Given (as_cell k))
  given_variable e = rw e (decides_yes Given.free)

-- ---- is it made, and does it give its parts?

module _ {k : case.Cell} {p : Parts} (w : MadeOf k p) where
  one_makes : {a : ℕ} → p ≡ parts.One a → Makes k a a
  one_makes {a} e = go (subst (MadeOf k) e w)
    where
      go : MadeOf k (parts.One a) → Makes k a a
      go (one e m) = m

  two_makes : {a b : ℕ} → p ≡ parts.Two a b → Makes k a b
  two_makes {a} {b} e = go (subst (MadeOf k) e w)
    where
      go : MadeOf k (parts.Two a b) → Makes k a b
      go (two e m) = m

  pub one_part : {a : ℕ} → p ≡ parts.One a → Part k a
  one_part e = (makes_parts (one_makes e)).0

  pub two_parts : {a b : ℕ} → p ≡ parts.Two a b → Part k a × Part k b
  two_parts e = makes_parts (two_makes e)

-- A seal has its key.
locked_seal : {k : case.Cell} {o : Opening} {b c : ℕ} → Opens k o → o ≡ opening.Locked b c → k ≡ SE b c
locked_seal {k} {o} {b} {c} w e = go (subst (Opens k) e w)
  where
    go : Opens k (opening.Locked b c) → k ≡ SE b c
    go (locked q) = q

pub locked_key : {k : case.Cell} {o : Opening} {b c : ℕ} → Opens k o → o ≡ opening.Locked b c → Part k c
locked_key w e = rw (locked_seal w e) in_right

module _ {k : case.Cell} {rep builts : List ℕ} where
  -- What is made of a and b has both built.
  made_both : {a b : ℕ} → Makes k a b → MadeBy k rep builts → On builts (class_at rep a) × On builts (class_at rep b)
  made_both m (MadeBy.makes n x y) =
      let (e, f) = makes_one n m in
      (subst (λ d. On builts (class_at rep d)) e x, subst (λ d. On builts (class_at rep d)) f y)

  module _ {p : Parts} (w : MadeOf k p) where
    pub made_one : {a : ℕ} {r : Bool} → p ≡ parts.One a → Decides r (On builts (class_at rep a)) → Decides r (MadeBy k rep builts)
    made_one e d = let m = one_makes w e in decides_iff d (λ x. MadeBy.makes m x x) (λ y. (made_both m y).0)

    pub made_not : {a b : ℕ} → p ≡ parts.Two a b → (On builts (class_at rep a) → ⊥) → Decides false (MadeBy k rep builts)
    made_not e n = decides_no (λ y. n (made_both (two_makes w e) y).0)

    pub made_two : {a b : ℕ} {r : Bool} → p ≡ parts.Two a b → On builts (class_at rep a) → Decides r (On builts (class_at rep b)) → Decides r (MadeBy k rep builts)
    made_two e x d = let m = two_makes w e in decides_iff d (λ y. MadeBy.makes m x y) (λ y. (made_both m y).1)

  module _ {o : Opening} (w : Opens k o) where
    pub gives_open : {l r : ℕ} → o ≡ opening.Open l r → Decides true (Gives k rep builts)
    gives_open {l} {r} e = decides_yes (go (subst (Opens k) e w))
      where
        go : Opens k (opening.Open l r) → Gives k rep builts
        go (open_pair q) = Gives.pairs q

    pub gives_locked : {b c : ℕ} {r : Bool} → o ≡ opening.Locked b c → Decides r (On builts (class_at rep c)) → Decides r (Gives k rep builts)
    gives_locked {b} {c} e d = let q = locked_seal w e in decides_iff d (λ x. Gives.keys q x) (key q)
      where
        key : k ≡ SE b c → Gives k rep builts → On builts (class_at rep c)
        key q (Gives.pairs z) = clash (cc)
        key q (Gives.keys {c = d} z x) = let i : d ≡ c = cc in subst (λ j. On builts (class_at rep j)) i x
        key q (Gives.parts y) = (made_both (subst (λ z. Makes z b c) (sym q) Makes.twos) y).1

    pub gives_shut : {r : Bool} → o ≡ opening.Shut → Decides r (MadeBy k rep builts) → Decides r (Gives k rep builts)
    gives_shut e d = decides_iff d (λ y. Gives.parts y) (go (subst (Opens k) e w))
      where
        go : Opens k opening.Shut → Gives k rep builts → MadeBy k rep builts
        go (shut p s) (Gives.pairs z) = absurd (p _ _ z)
        go (shut p s) (Gives.keys z x) = absurd (s _ _ z)
        go (shut p s) (Gives.parts y) = y
