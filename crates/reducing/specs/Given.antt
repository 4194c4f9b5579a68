-- What reducing is handed: a table without variables, the classes of its cells, the built marks; and what the messages have to do with them.
-- LowParts, LowClasses, Solid, Given: the table and its classes; Exact, Shown: the messages.
use Rattle.std.specs.Prelude.{◌≡◌, ◌↔◌, List, ℕ, ◌≤◌, ◌<◌}
use Rattle.model.specs.Message.{Message, Built}
use Rattle.model.specs.Case.{Cell, VA, Table, Run, Part, Ground, Heard}
use Rattle.model.specs.Stored.{table_in}
use Rattle.theory.specs.Cells.{TableWords, class_at, On}
use Rattle.knowledge.specs.Knowledge.{ClassRow}

-- The parts of the cell k are among the cells 0 to 128.
abbrev pub LowParts : Cell → Type 0
LowParts k = (d : ℕ) → Part k d → d ≤ 128

-- So are the cells that stand for the classes.
abbrev pub LowClasses : List ℕ → Type 0
LowClasses rep = (c : ℕ) → class_at rep c ≤ 128

-- No cell is a variable.
abbrev pub Solid : List ℕ → Type 0
Solid words = (c : ℕ) → table_in words c ≡ VA → ⊥

-- What reducing is handed: the lowest cell of a class stands for it.
pub record Given (n : ℕ) (words rep : List ℕ) : Type 0 where
  pub rows : TableWords n words
  pub classes : ClassRow n rep
  pub lowest : (c : ℕ) → c < n → class_at rep c ≤ c
  pub solid : Solid words

-- Cells are of one class exactly if they show one message.
abbrev pub Exact : List ℕ → (ℕ → Message) → Type 0
Exact rep m = (c d : ℕ) → (m c ≡ m d) ↔ (class_at rep c ≡ class_at rep d)

-- The cells show m, and the marks are on the classes that can be built from what the run's LN events teach.
pub record Shown (T : Table) (rep built : List ℕ) (m : ℕ → Message) (ev : Run) : Type 0 where
  pub reads : Ground T m
  pub exact : Exact rep m
  pub marked : (c : ℕ) → On built (class_at rep c) ↔ Built (Heard ev m) (m c)
