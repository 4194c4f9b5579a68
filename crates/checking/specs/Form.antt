-- The form of a value list, and his own name put for the entries 255.
-- FirstBad: the first entry of bad form; entry_cell: the cell of an entry; Owned: the table in which his own name is put.
use Rattle.std.specs.Prelude.{Option, Some, None, ◌≡◌, List, ℕ, ◌<◌, get_or}
use Rattle.model.specs.Case.{AT, Table}
use Rattle.model.specs.Values.{cell_of, Entry}

-- The first entry of bad form, if there is one.
abbrev pub FirstBad : Table → ℕ → List ℕ → Option ℕ → Type 0
FirstBad T n list (Some c) = (c < n) × ((d : ℕ) → d < c → Entry T n d (get_or list d 0)) × (Entry T n c (get_or list c 0) → ⊥)
FirstBad T n list None = (d : ℕ) → d < n → Entry T n d (get_or list d 0)

-- The cell that the entry of v names.
abbrev pub entry_cell : List ℕ → ℕ → ℕ
entry_cell list v = cell_of (get_or list v 0)

-- The table T' has his own name where the list has 255, and else the cells of T.
pub record Owned (T : Table) (list : List ℕ) (T' : Table) : Type 0 where
  pub own : (c : ℕ) → get_or list c 0 ≡ 255 → T' c ≡ AT 0
  pub rest : (c : ℕ) → (get_or list c 0 ≡ 255 → ⊥) → T' c ≡ T c
