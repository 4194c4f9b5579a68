-- The value list of a class array.
-- Valued: the entry of a variable by the cell that stands for its class; Entered: the entry of a cell; Listed: the whole list.
use Rattle.std.specs.Prelude.{◌≡◌, List, ℕ, ◌≤◌, ◌<◌, length, get_or}
use Rattle.model.specs.Case.{VA, Table}
use Rattle.theory.specs.Cells.{class_at}

-- The entry x of a variable, by the cell r that stands for its class: r, or 255 if r is a variable or beyond the n cells of the table.
pub data Valued (T : Table) (n r x : ℕ) : Type 0 where
  bound : r < n → (T r ≡ VA → ⊥) → x ≡ r → Valued T n r x
  free : T r ≡ VA → x ≡ 255 → Valued T n r x
  beyond : n ≤ r → x ≡ 255 → Valued T n r x

-- The entry x of the cell c.
pub data Entered (T : Table) (n : ℕ) (rep : List ℕ) (c x : ℕ) : Type 0 where
  value : T c ≡ VA → Valued T n (class_at rep c) x → Entered T n rep c x
  itself : (T c ≡ VA → ⊥) → x ≡ c → Entered T n rep c x

-- The first `upto` bytes are the entries of the cells below it.
pub record Listed (T : Table) (n : ℕ) (rep out : List ℕ) (upto : ℕ) : Type 0 where
  pub size : length out ≡ 128
  pub entries : (c : ℕ) → c < upto → Entered T n rep c (get_or out c 0)
