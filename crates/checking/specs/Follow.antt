-- Following a list by classes of cells.
-- Inside: entries are cells; Listed: messages that follow the list; Binds, Gathers, Follows: the functions.
use Rattle.std.specs.Prelude.{◌≡◌, List, ◌↔◌, ℕ, ◌<◌, get_or, Option, Some, None}
use Rattle.model.specs.Message.{Message}
use Rattle.model.specs.Case.{VA, Table, Reads}
use Rattle.theory.specs.Cells.{class_at}
use Rattle.theory.specs.Classes.{Sat}
use Rattle.classes.specs.Kept.{Kept, Solved}

-- The entry of a variable is a cell of the table that is no variable.
abbrev pub Inside : ℕ → Table → List ℕ → Type 0
Inside n T list = (v : ℕ) → T v ≡ VA → (get_or list v 0 < n) × (T (get_or list v 0) ≡ VA → ⊥)

-- Each variable shows what the cell of its entry shows.
abbrev pub Listed : Table → List ℕ → (ℕ → Message) → Type 0
Listed T list m = (v : ℕ) → T v ≡ VA → m v ≡ m (get_or list v 0)

-- Classes that exactly those messages satisfy that satisfy rep and, if c is a variable, make c and x equal.
pub record Binds (n : ℕ) (T : Table) (rep : List ℕ) (c x : ℕ) (out : List ℕ) : Type 0 where
  pub kept : Kept n T out
  pub sat : (m : ℕ → Message) → (Sat (class_at rep) m × (T c ≡ VA → m c ≡ m x)) ↔ Sat (class_at out) m

-- Classes that exactly those messages satisfy that follow the list.
pub record Gathers (n : ℕ) (T : Table) (list out : List ℕ) : Type 0 where
  pub kept : Kept n T out
  pub sat : (m : ℕ → Message) → Reads T m m → Listed T list m ↔ Sat (class_at out) m

-- Solved classes that exactly those messages satisfy that follow the list.
pub record Followed (n : ℕ) (T : Table) (list out : List ℕ) : Type 0 where
  pub solved : Solved n T out
  pub sat : (m : ℕ → Message) → Reads T m m → Listed T list m ↔ Sat (class_at out) m

-- Such classes; none, if no messages of the cells follow the list.
abbrev pub Follows : ℕ → Table → List ℕ → Option (List ℕ) → Type 0
Follows n T list (Some out) = Followed n T list out
Follows n T list None = (m : ℕ → Message) → Reads T m m → Listed T list m → ⊥
