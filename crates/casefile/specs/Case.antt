-- What the reader replies: the reading of model/specs/Format, with cells and events as they are stored.
use Rattle.std.specs.Prelude.{◌≡◌, List, ℕ, ◌+◌, ◌*◌, ◌<◌, length, set, replicate, Option as Optional, Some, None, Result, Ok, Err}
use Rattle.std.proofs.Math.Option.{Option, some, none}
use Rattle.model.specs.Case.{File, Table, VA}
use Rattle.model.specs.Format.{Reading, first_variable}
use Rattle.model.specs.Stored.{word_of, event_word, row}
use Rattle.refusals.specs.declared.Refusal.{Refusal}
use Rattle.refusals.specs.Numbers.{number_of}
use Rattle.casefile.specs.declared.Row.{Row}
use Rattle.casefile.specs.declared.case.Case.{Case}

-- The words of a list, and how many they are.
abbrev pub stored : {A : Type 0} → (A → ℕ) → List A → Row
stored word xs = record { words = row word xs; count = length xs }

-- No words.
abbrev pub no_words : Row
no_words = record { words = replicate 128 0; count = 0 }

-- The words with one more.
abbrev pub with_word : Row → ℕ → Row
with_word t word = record { words = set t.words t.count word; count = t.count + 1 }

-- The offset of the first VA, if there is one.
abbrev pub found_at : Option ℕ → Optional ℕ
found_at none = None
found_at (some at) = Some at

-- The case holds the file f: its cells and its events as they are stored, and its first variable. That its table and its run are well formed is kept by the case itself.
pub record Holds (f : File) (case : Case) : Type 0 where
  pub words : case.table.words ≡ row word_of f.cells
  pub count : case.table.count ≡ length f.cells
  pub run : case.run ≡ stored event_word f.events
  pub variable : case.variable ≡ found_at (first_variable f.cells)

-- The reply to a file that is read so: a refusal is told with the reading's number and its place.
abbrev pub Reads : Reading → Result Case Refusal → Type 0
Reads (Reading.refused number place) (Err e) = (number_of e.fault ≡ number) × (e.place ≡ place)
Reads (Reading.refused number place) (Ok case) = ⊥
Reads (Reading.accepted f) (Ok case) = Holds f case
Reads (Reading.accepted f) (Err e) = ⊥

-- r is the offset of the first VA of a table of n cells: the records of the cells before it have four bytes each.
abbrev pub VariableFound : Table → ℕ → Optional ℕ → Type 0
VariableFound T n (Some at) = (i : ℕ) × (at ≡ 4 * i) × (i < n) × (T i ≡ VA) × ((j : ℕ) → j < i → T j ≡ VA → ⊥)
VariableFound T n None = (j : ℕ) → j < n → T j ≡ VA → ⊥
