-- What the run program prints, as bytes. Each line ends with a line feed.
-- refused_line, counts_line, yes_line, no_line, value_line, value_lines: the lines; Lines: those of a file's reply.
use Rattle.std.specs.Prelude.{◌≡◌, cond, List, [], ◌∷◌, ◌++◌, ℕ, zero, suc, eqb, length, get_or}
use Rattle.model.specs.Case.{Cell, AT, VA, ONE, TWO, File, Table, table_of}
use Rattle.model.specs.Format.{read_file, refused, accepted}
use Rattle.model.specs.Replies.{RightListed, NoneRight}
use Rattle.lines.specs.Put.{told}

-- A line feed.
abbrev pub feed : List ℕ
feed = 10 ∷ []

-- refused N at P
abbrev pub refused_line : ℕ → ℕ → List ℕ
refused_line number place = told (114 ∷ 101 ∷ 102 ∷ 117 ∷ 115 ∷ 101 ∷ 100 ∷ 32 ∷ []) number ++ (told (32 ∷ 97 ∷ 116 ∷ 32 ∷ []) place ++ feed)

-- cells C events E
abbrev pub counts_line : ℕ → ℕ → List ℕ
counts_line cells events = told (99 ∷ 101 ∷ 108 ∷ 108 ∷ 115 ∷ 32 ∷ []) cells ++ (told (32 ∷ 101 ∷ 118 ∷ 101 ∷ 110 ∷ 116 ∷ 115 ∷ 32 ∷ []) events ++ feed)

-- run no
abbrev pub no_line : List ℕ
no_line = 114 ∷ 117 ∷ 110 ∷ 32 ∷ 110 ∷ 111 ∷ 10 ∷ []

-- run yes
abbrev pub yes_line : List ℕ
yes_line = 114 ∷ 117 ∷ 110 ∷ 32 ∷ 121 ∷ 101 ∷ 115 ∷ 10 ∷ []

-- = X, the number of a value's cell; or = own, for 255
abbrev pub value : ℕ → List ℕ
value x = cond (eqb x 255) (32 ∷ 61 ∷ 32 ∷ 111 ∷ 119 ∷ 110 ∷ 10 ∷ []) (told (32 ∷ 61 ∷ 32 ∷ []) x ++ feed)

-- vV = X
abbrev pub value_line : ℕ → ℕ → List ℕ
value_line v x = told (118 ∷ []) v ++ value x

-- The line of the cell v with the entry x: a variable has one, any other cell none.
abbrev pub line_of : Cell → ℕ → ℕ → List ℕ
line_of (AT n) v x = []
line_of VA v x = value_line v x
line_of (ONE g a) v x = []
line_of (TWO h l r) v x = []

-- One line for each variable below n, in rising order.
unfoldable pub value_lines : Table → List ℕ → ℕ → List ℕ
value_lines T list zero = []
value_lines T list (suc n) = value_lines T list n ++ line_of (T n) n (get_or list n 0)

-- The lines of a file whose run is "no".
abbrev pub no_lines : File → List ℕ
no_lines f = counts_line (length f.cells) (length f.events) ++ no_line

-- The lines of a file with this value list.
abbrev pub yes_lines : File → List ℕ → List ℕ
yes_lines f list = counts_line (length f.cells) (length f.events) ++ (yes_line ++ value_lines (table_of f.cells) list (length f.cells))

-- `Lines file text`: the text is the reply to the file: a refusal; or the counts and "no"; or the counts, "yes" and the values of a right list.
pub data Lines (file : List ℕ) : List ℕ → Type 0 where
  refusal : (number place : ℕ) → read_file file ≡ refused number place → Lines file (refused_line number place)
  no : (f : File) → read_file file ≡ accepted f → NoneRight f → Lines file (no_lines f)
  yes : (f : File) (list : List ℕ) → read_file file ≡ accepted f → RightListed f list → Lines file (yes_lines f list)
