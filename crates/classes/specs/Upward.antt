-- Closing the classes upwards: cells that are alike, by the classes of their parts, are put into one class.
-- FellowTold, Fellow: the lowest cell that stands for its class and is alike; Met: there is none below; Meets, Lifts, Raised: the functions.
use Rattle.std.specs.Prelude.{◌≡◌, Bool, true, false, List, ◌↔◌, ℕ, ◌+◌, ◌≤◌, ◌<◌}
use Rattle.model.specs.Message.{Message}
use Rattle.model.specs.Case.{Table, Reads}
use Rattle.theory.specs.Cells.{class_at}
use Rattle.theory.specs.Classes.{Alike, Sat}
use Rattle.classes.specs.Kept.{class_count, Solved}
use Rattle.classes.specs.Settle.{Moved}
use Rattle.classes.specs.Links.{Linked, Leads, Downward}

-- r says whether d stands for its class and is alike c.
pub record FellowTold (T : Table) (cls : ℕ → ℕ) (c d : ℕ) (r : Bool) : Type 0 where
  pub yes : r ≡ true → (cls d ≡ d) × Alike cls (T c) (T d)
  pub no : r ≡ false → cls d ≡ d → Alike cls (T c) (T d) → ⊥

-- The cell r is below c, stands for its class and is alike c, or it is c; and if the links are right, no lower cell that stands for its class is alike.
pub record Fellow (T : Table) (cls : ℕ → ℕ) (links : List ℕ) (top c r : ℕ) : Type 0 where
  pub low : r ≤ c
  pub stands : r < c → cls r ≡ r
  pub hit : r < c → Alike cls (T c) (T r)
  pub miss : Leads T cls links top c → (d : ℕ) → d < r → cls d ≡ d → Alike cls (T c) (T d) → ⊥

-- If c stands for its class, no cell below it that stands for its own is alike.
abbrev pub Met : Table → (ℕ → ℕ) → ℕ → Type 0
Met T cls c = cls c ≡ c → (d : ℕ) → d < c → cls d ≡ d → Alike cls (T c) (T d) → ⊥

-- One cell: the classes rep and the links become rep', tops' and links'. If nothing changed, links that were right are right.
pub record Meets (n : ℕ) (T : Table) (c : ℕ) (rep tops links rep' tops' links' : List ℕ) (changed : Bool) : Type 0 where
  pub moved : Moved T (Solved n T) rep rep' changed
  pub down : Downward (c + 1) tops' links'
  pub met : changed ≡ false → Linked T (class_at rep) c tops links → Met T (class_at rep) c × Linked T (class_at rep) (c + 1) tops' links'

-- Each of the cells below upto.
pub record Lifts (n : ℕ) (T : Table) (rep : List ℕ) (upto : ℕ) (out : List ℕ) (changed : Bool) : Type 0 where
  pub moved : Moved T (Solved n T) rep out changed
  pub met : changed ≡ false → (c : ℕ) → c < upto → Met T (class_at rep) c

-- Solved classes that the same messages satisfy, in which cells that are alike are of one class.
pub record Raised (n : ℕ) (T : Table) (rep out : List ℕ) : Type 0 where
  pub solved : Solved n T out
  pub sat : (m : ℕ → Message) → Reads T m m → Sat (class_at rep) m ↔ Sat (class_at out) m
  pub most : class_count out ≤ class_count rep
  pub up : (c d : ℕ) → Alike (class_at out) (T c) (T d) → class_at out c ≡ class_at out d
