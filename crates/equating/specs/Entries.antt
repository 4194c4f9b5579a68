-- The list that equating writes, by the table and the classes of its cells.
-- entry_of: one entry; list_of: the entries of the first cells.
use Rattle.std.specs.Prelude.{List, [], ◌∷◌, ◌++◌, ℕ, zero, suc, get_or}
use Rattle.model.specs.Case.{Cell, AT, VA, ONE, TWO, Table}

-- The entry of the cell c, which is k: for a variable the cell x that stands for its class, for any other cell its own number.
abbrev pub entry_of : Cell → ℕ → ℕ → ℕ
entry_of (AT n) x c = c
entry_of VA x c = x
entry_of (ONE g a) x c = c
entry_of (TWO h l r) x c = c

-- The entries of the cells below n.
unfoldable pub list_of : Table → List ℕ → ℕ → List ℕ
list_of T rep zero = []
list_of T rep (suc n) = list_of T rep n ++ (entry_of (T n) (get_or rep n 0) n ∷ [])
