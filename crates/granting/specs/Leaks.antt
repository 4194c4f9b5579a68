-- What comes to light where a cell over a free class is equal to one that may be seen.
-- Bright, Leaks: a part that is not yet seen; LeakTold: what is found at two cells; LeakingRow, Leaking: the sweeps;
-- Tight: nothing more leaks; Leaked: all of it.
use Rattle.std.specs.Prelude.{◌≡◌, ◌⊎◌, Bool, false, List, ℕ, ◌≤◌, ◌<◌, Option, Some, None}
use Rattle.model.specs.Case.{Table}
use Rattle.theory.specs.Cells.{class_at, On}
use Rattle.knowledge.specs.Sweeps.{left_class, right_class, Grown}
use Rattle.wants.specs.Sets.{HeldRow, OverRow}
use Rattle.granting.specs.Meets.{May}

-- The class x is marked in the row `held`, and y is not yet seen.
abbrev pub Bright : List ℕ → List ℕ → ℕ → ℕ → Type 0
Bright held seens x y = On held x × (On seens y → ⊥)

-- The cell d is seen and may be equal to c, and a part of d that stands where c has one that is held is not yet seen.
pub record Leaks (T : Table) (rep held seens : List ℕ) (c d : ℕ) : Type 0 where
  pub whole : On seens d
  pub may : May T rep c d
  pub part : Bright held seens (left_class T rep c) (left_class T rep d) ⊎ Bright held seens (right_class T rep c) (right_class T rep d)

-- What is found at c and d: a class that is not yet seen, or that nothing leaks here.
pub data LeakTold (T : Table) (rep held seens : List ℕ) (c d : ℕ) : Option ℕ → Type 0 where
  leak : {x : ℕ} → x ≤ 128 → class_at rep x ≡ x → (On seens x → ⊥) → LeakTold T rep held seens c d (Some x)
  nothing : (Leaks T rep held seens c d → ⊥) → LeakTold T rep held seens c d None

-- A sweep over the cells d below `upto`, which takes the marks m of seen cells to r.
pub record LeakingRow (T : Table) (rep held : List ℕ) (c : ℕ) (m r : List ℕ) (changed : Bool) (upto : ℕ) : Type 0 where
  pub grown : Grown rep m r changed
  pub still : changed ≡ false → (d : ℕ) → d < upto → Leaks T rep held r c d → ⊥

-- The same for the cells c that are marked in the row `over`.
pub record Leaking (T : Table) (n : ℕ) (rep held over m r : List ℕ) (changed : Bool) : Type 0 where
  pub grown : Grown rep m r changed
  pub still : changed ≡ false → (c : ℕ) → c < n → On over c → (d : ℕ) → d < n → Leaks T rep held r c d → ⊥

-- With the marks s of seen cells nothing more leaks.
pub record Tight (T : Table) (n : ℕ) (rep run : List ℕ) (p : ℕ) (s : List ℕ) : Type 0 where
  pub held : List ℕ
  pub over : List ℕ
  pub holds : HeldRow T rep s held
  pub tops : OverRow T rep held run p over
  pub still : (c : ℕ) → c < n → On over c → (d : ℕ) → d < n → Leaks T rep held s c d → ⊥

-- The marks m of seen cells are taken to r; where nothing changes, nothing leaks.
pub record Leaked (T : Table) (n : ℕ) (rep run : List ℕ) (p : ℕ) (m r : List ℕ) (changed : Bool) : Type 0 where
  pub grown : Grown rep m r changed
  pub tight : changed ≡ false → Tight T n rep run p r
