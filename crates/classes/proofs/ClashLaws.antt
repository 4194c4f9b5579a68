-- When no messages make two cells equal: by how the cells meet that stand for their classes.
use mathlib.Core.Path.{◌≡◌, refl, sym, ◌∙◌}
use mathlib.Core.List.{List}
use Prim.Native.Nat.{ℕ}
use Rattle.model.specs.Message.{Message}
use Rattle.model.specs.Case.{Cell, VA, Table, Reads}
use Rattle.theory.specs.Cells.{class_at}
use Rattle.theory.specs.Classes.{Alike, Sat}
use Rattle.theory.proofs.Classes.{look_alike}
use Rattle.cells.specs.Cells.{as_cell, Meets}
use Rattle.cells.specs.declared.Cell as stored
use Rattle.cells.specs.declared.Cell.TheVariants as cell
use Rattle.cells.specs.declared.Meeting.TheVariants as meeting
use Rattle.classes.specs.Kept.{Kept, Never}
use Rattle.classes.specs.Differ.{Facing, args, lefts, rights}
use Rattle.classes.proofs.DifferLaws.{facing_same, alike_any, meets_unlike, meets_same}

-- A cell that was not read as a variable is none.
pub solid_cell : (k : stored.Cell) → (k ≡ cell.Variable → ⊥) → as_cell k ≡ VA → ⊥
solid_cell (cell.Atom n) ne e = cc
solid_cell cell.Variable ne e = ne refl
solid_cell (cell.Pair l r) ne e = cc
solid_cell (cell.Seal b k) ne e = cc
solid_cell (cell.Apply f a) ne e = cc

-- Cells with facing parts are no variables.
facing_solid : {k l : Cell} {p q : ℕ} → Facing k l p q → (k ≡ VA → ⊥) × (l ≡ VA → ⊥)
facing_solid args = (λ v. cc, λ v. cc)
facing_solid lefts = (λ v. cc, λ v. cc)
facing_solid rights = (λ v. cc, λ v. cc)

-- The cells k and l stand for the classes of x and y, as a and b of the table.
module _ (T : Table) (rep : List ℕ) {x y a b : ℕ} {k l : Cell} (ax : a ≡ class_at rep x) (by : b ≡ class_at rep y) (ka : k ≡ T a) (lb : l ≡ T b) where
  -- If they are no variables, messages that make x and y equal make them alike.
  alike : (k ≡ VA → ⊥) → (l ≡ VA → ⊥) → (m : ℕ → Message) → Reads T m m → Sat (class_at rep) m → m x ≡ m y → Alike m k l
  alike sk sl m mr s e = look_alike m m (m a) (m b) k l sk sl (cc (mr a, mr b, s x, s y))

  -- So they are not unlike,
  pub never_unlike : (k ≡ VA → ⊥) → (l ≡ VA → ⊥) → Meets k l meeting.Unlike → Never T (class_at rep) x y
  never_unlike sk sl w m mr s e = meets_unlike w (alike_any (alike sk sl m mr s e))

  -- and facing parts are equal too.
  pub never_facing : {p q : ℕ} → Facing k l p q → Never T (class_at rep) p q → Never T (class_at rep) x y
  never_facing f none m mr s e = let (sk, sl) = facing_solid f in none m mr s (facing_same f (alike sk sl m mr s e))

  -- Two of one name are one.
  pub never_same : {n : ℕ} → Kept n T rep → (a ≡ b → ⊥) → Meets k l meeting.Same → Never T (class_at rep) x y
  never_same w ne met m mr s e =
      let (p, i, j) = meets_same met in
      ne (cc (w.reps.idem x, w.reps.idem y, w.names a b p (sym ka ∙ i) (sym lb ∙ j)))
