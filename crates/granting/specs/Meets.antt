-- Cells that may be equal, and keys that are granted as they may be equal to a cell that is seen.
-- May: when two cells may be equal; Alone: a cell may be equal to none that is seen; Earns: a key to be granted; Granting: a sweep over the cells.
use Rattle.std.specs.Prelude.{◌≡◌, Bool, false, List, ℕ, ◌<◌}
use Rattle.model.specs.Case.{Table}
use Rattle.theory.specs.Cells.{class_at, On}
use Rattle.theory.specs.Level.{Kin}
use Rattle.classes.specs.Kept.{Never}
use Rattle.knowledge.specs.Sweeps.{Grown}

-- The cells c and d, of two classes, may be equal: they are of one kind that does not give its parts by itself, and it is not so that no messages make them equal.
pub record May (T : Table) (rep : List ℕ) (c d : ℕ) : Type 0 where
  pub kin : Kin (T c) (T d)
  pub apart : class_at rep c ≡ class_at rep d → ⊥
  pub meet : Never T (class_at rep) c d → ⊥

-- No cell below `upto` that is seen may be equal to c.
abbrev pub Alone : Table → List ℕ → List ℕ → ℕ → ℕ → Type 0
Alone T rep seens c upto = (d : ℕ) → d < upto → On seens d → May T rep c d → ⊥

-- The cell c is in the row `keys`, is not yet marked as built, and may be equal to a cell that is seen.
pub record Earns (T : Table) (n : ℕ) (rep keys seens builts : List ℕ) (c : ℕ) : Type 0 where
  pub key : On keys c
  pub new : On builts c → ⊥
  pub cell : ℕ
  pub below : cell < n
  pub whole : On seens cell
  pub may : May T rep c cell

-- A sweep over the cells below `upto`, which takes the marks m of built cells to r.
pub record Granting (T : Table) (n : ℕ) (rep keys seens m r : List ℕ) (changed : Bool) (upto : ℕ) : Type 0 where
  pub grown : Grown rep m r changed
  pub still : changed ≡ false → (c : ℕ) → c < upto → Earns T n rep keys seens r c → ⊥
