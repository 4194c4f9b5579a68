-- The occurs check: a cell is done if all parts of the cell that stands for it are done.
-- Done: all parts are marked; Peeled: what the marks keep; Fresh, Peels, AllDone: the functions.
use Rattle.std.specs.Prelude.{◌≡◌, Bool, true, false, not, List, ℕ, ◌≤◌, ◌<◌, eqb, length, get_or}
use Rattle.model.specs.Case.{Cell, Table, Part}
use Rattle.theory.specs.Cells.{On, class_at}
use Rattle.classes.specs.Kept.{count}

-- All parts of the cell k are marked.
abbrev pub Done : List ℕ → Cell → Type 0
Done marks k = (d : ℕ) → Part k d → On marks d

-- The table of the classes.
abbrev pub class_table : Table → List ℕ → Table
class_table T rep c = T (class_at rep c)

-- Marked cells of the table S come round nowhere: they have ranks, and a part is marked and ranks lower.
pub record Peeled (S : Table) (marks : List ℕ) : Type 0 where
  pub long : length marks ≡ 129
  pub rank : ℕ → ℕ
  pub top : ℕ
  pub below : (c : ℕ) → On marks c → rank c < top
  pub lower : (c d : ℕ) → On marks c → Part (S c) d → On marks d × (rank d < rank c)

-- r says whether the cell c is to be marked: it is not, and all its parts are.
pub record Fresh (S : Table) (marks : List ℕ) (c : ℕ) (r : Bool) : Type 0 where
  pub yes : r ≡ true → (On marks c → ⊥) × Done marks (S c)
  pub no : r ≡ false → Done marks (S c) → On marks c

-- r says whether all cells below upto are marked.
pub record AllDone (marks : List ℕ) (upto : ℕ) (r : Bool) : Type 0 where
  pub yes : r ≡ true → (c : ℕ) → c < upto → On marks c
  pub no : r ≡ false → (c : ℕ) × (c < upto) × (On marks c → ⊥)

-- How many cells are not marked.
abbrev pub undone : List ℕ → ℕ
undone marks = count (λ c. not (eqb (get_or marks c 0) 1)) 129

-- One sweep over the cells below upto: if nothing changed, each cell whose parts are marked is marked.
pub record Peels (S : Table) (marks : List ℕ) (upto : ℕ) (out : List ℕ) (changed : Bool) : Type 0 where
  pub peeled : Peeled S out
  pub most : undone out ≤ undone marks
  pub fewer : changed ≡ true → undone out < undone marks
  pub shut : changed ≡ false → (c : ℕ) → c < upto → Done out (S c) → On out c
