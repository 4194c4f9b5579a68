-- Marks that spread over the classes until nothing changes: down to parts, and up from them.
-- Reaches, Lowering, Lowered: down; Raises, Raising, Raised: up.
use Rattle.std.specs.Prelude.{◌≡◌, ◌⊎◌, Bool, false, List, ℕ, ◌≤◌, ◌<◌, get_or}
use Rattle.model.specs.Case.{Table, Part}
use Rattle.theory.specs.Cells.{class_at, On}
use Rattle.knowledge.specs.Sweeps.{left_class, right_class, Grown}
use Rattle.wants.specs.Starts.{Wider}

-- The cell c is marked, and d, which has the byte `flag` in the row `only`, is not.
pub record Reaches (m only : List ℕ) (flag c d : ℕ) : Type 0 where
  pub whole : On m c
  pub fit : get_or only d 0 ≡ flag
  pub new : On m d → ⊥

-- A sweep downwards over the cells from `from` to n, which takes the marks m to r.
pub record Lowering (T : Table) (rep only : List ℕ) (flag : ℕ) (m r : List ℕ) (changed : Bool) (n from : ℕ) : Type 0 where
  pub grown : Grown rep m r changed
  pub still : changed ≡ false → (c : ℕ) → from ≤ c → c < n → (Reaches r only flag c (left_class T rep c) → ⊥) × (Reaches r only flag c (right_class T rep c) → ⊥)

-- The row r has the marks of m, and the parts of its cells, as far as they have `flag` in `only`.
pub record Lowered (T : Table) (rep only : List ℕ) (flag : ℕ) (m r : List ℕ) : Type 0 where
  pub wider : Wider rep m r
  pub parts : (c d : ℕ) → class_at rep c ≡ c → On r c → Part (T c) d → get_or only (class_at rep d) 0 ≡ flag → On r (class_at rep d)

-- The cell c stands for its class and is not marked, and a part of it is.
pub record Raises (T : Table) (rep m : List ℕ) (c : ℕ) : Type 0 where
  pub stands : class_at rep c ≡ c
  pub new : On m c → ⊥
  pub part : On m (left_class T rep c) ⊎ On m (right_class T rep c)

-- A sweep upwards over the cells below `upto`, which takes the marks m to r.
pub record Raising (T : Table) (rep m r : List ℕ) (changed : Bool) (upto : ℕ) : Type 0 where
  pub grown : Grown rep m r changed
  pub still : changed ≡ false → (c : ℕ) → c < upto → Raises T rep r c → ⊥

-- The row r has the marks of m, and the cells with a marked part.
pub record Raised (T : Table) (rep m r : List ℕ) : Type 0 where
  pub wider : Wider rep m r
  pub up : (c d : ℕ) → class_at rep c ≡ c → Part (T c) d → On r (class_at rep d) → On r c
