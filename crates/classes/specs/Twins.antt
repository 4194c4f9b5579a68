-- The first class array of a table: cells that show equal trees are one class.
-- class_word: one word for cells that are alike; Worded, Earliest: how the lowest one is found; Twin: the lowest cell that is alike; First: what the entry of one cell is;
-- Start: what the whole array keeps.
use Rattle.std.specs.Prelude.{◌≡◌, List, ℕ, ◌+◌, ◌≤◌, ◌<◌, length, get_or}
use Rattle.model.specs.Message.{Message}
use Rattle.model.specs.Case.{Cell, AT, VA, ONE, TWO, Table, Reads}
use Rattle.model.specs.Stored.{word_of}
use Rattle.theory.specs.Cells.{class_at}
use Rattle.theory.specs.Classes.{Alike, Sat}
use Rattle.classes.specs.Kept.{Solved}

-- The class word of the cell c, which shows k: the word of k with the classes of its parts for the parts. That of a variable has its number added.
unfoldable pub class_word : (ℕ → ℕ) → ℕ → Cell → ℕ
class_word cls c (AT n) = word_of (AT n)
class_word cls c VA = word_of VA + c
class_word cls c (ONE g a) = word_of (ONE g (cls a))
class_word cls c (TWO h l r) = word_of (TWO h (cls l) (cls r))

-- The class words of the cells below c, as far as they are not beyond n.
pub record Worded (n : ℕ) (T : Table) (cls : ℕ → ℕ) (c : ℕ) (words : List ℕ) : Type 0 where
  pub long : length words ≡ 129
  pub at : (d : ℕ) → d < c → d ≤ n → get_or words d 0 ≡ class_word cls d (T d)

-- r is the lowest place that has the word of the place c.
pub record Earliest (words : List ℕ) (c r : ℕ) : Type 0 where
  pub low : r ≤ c
  pub same : get_or words r 0 ≡ get_or words c 0
  pub none : (d : ℕ) → d < r → get_or words d 0 ≡ get_or words c 0 → ⊥

-- The cell c stands with the lowest cell that is alike by the classes of the parts; a variable stands alone.
pub record First (T : Table) (cls : ℕ → ℕ) (c : ℕ) : Type 0 where
  pub low : cls c ≤ c
  pub alone : T c ≡ VA → cls c ≡ c
  pub same : (T c ≡ VA → ⊥) → Alike cls (T c) (T (cls c))
  pub least : (d : ℕ) → d < cls c → Alike cls (T c) (T d) → ⊥

-- The cell r, not above c, is the lowest that is alike c by the classes, or c itself.
pub record Twin (T : Table) (cls : ℕ → ℕ) (c r : ℕ) : Type 0 where
  pub low : r ≤ c
  pub hit : r < c → Alike cls (T c) (T r)
  pub miss : (d : ℕ) → d < r → Alike cls (T c) (T d) → ⊥

-- The first class array: solved, satisfied by all messages of the cells, and cells that are alike are of one class.
pub record Start (n : ℕ) (T : Table) (rep : List ℕ) : Type 0 where
  pub solved : Solved n T rep
  pub met : (m : ℕ → Message) → Reads T m m → Sat (class_at rep) m
  pub up : (c d : ℕ) → Alike (class_at rep) (T c) (T d) → class_at rep c ≡ class_at rep d
  pub alone : (c : ℕ) → T c ≡ VA → class_at rep c ≡ c
