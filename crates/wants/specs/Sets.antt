-- The sets of one step of the search, in rows of marks. Each row may have more than its set.
-- NeedRow, HeldRow, OverRow: three sets, one row each; WantedRow: the cells that may have to be made equal to a bare one.
use Rattle.std.specs.Prelude.{◌≡◌, List, ℕ, ◌<◌, get_or}
use Rattle.model.specs.Case.{VA, SE, MK, Table, Part}
use Rattle.model.specs.Stored.{event_in, aim}
use Rattle.theory.specs.Cells.{class_at, On}

-- The row r has the keys that are not built of the seals that are seen, and of its cells the parts that are not built.
pub record NeedRow (T : Table) (rep seens builts r : List ℕ) : Type 0 where
  pub keys : (c b k : ℕ) → T c ≡ SE b k → On seens c → (On builts (class_at rep k) → ⊥) → On r (class_at rep k)
  pub lower : (c d : ℕ) → class_at rep c ≡ c → On r c → Part (T c) d → (On builts (class_at rep d) → ⊥) → On r (class_at rep d)

-- The row r has the cells that hold a free class that is seen.
pub record HeldRow (T : Table) (rep seens r : List ℕ) : Type 0 where
  pub here : (c : ℕ) → class_at rep c ≡ c → T c ≡ VA → On seens c → On r c
  pub up : (c d : ℕ) → class_at rep c ≡ c → Part (T c) d → On r (class_at rep d) → On r c

-- The row r has the cells to be made before p, and their parts, as far as they are in the row `held`.
pub record OverRow (T : Table) (rep held run : List ℕ) (p : ℕ) (r : List ℕ) : Type 0 where
  pub due : (q x : ℕ) → q < p → event_in (get_or run q 0) ≡ MK x → On held (class_at rep x) → On r (class_at rep x)
  pub parts : (c d : ℕ) → class_at rep c ≡ c → On r c → Part (T c) d → On held (class_at rep d) → On r (class_at rep d)

-- The row r has the cells that may have to be made equal to a bare one, at the MK at p: what is to be made there, with what may help to build it, and the cells over a free class.
pub record WantedRow (T : Table) (rep seens builts run : List ℕ) (p : ℕ) (r : List ℕ) : Type 0 where
  pub need : List ℕ
  pub held : List ℕ
  pub over : List ℕ
  pub goal : On need (class_at rep (aim (event_in (get_or run p 0))))
  pub needs : NeedRow T rep seens builts need
  pub holds : HeldRow T rep seens held
  pub tops : OverRow T rep held run p over
  pub left : (c : ℕ) → On need c → On r c
  pub right : (c : ℕ) → class_at rep c ≡ c → On over c → On r c
