-- The line of a refusal: its number and place, and the place as line and column.
-- feeds, since: line feeds, and bytes behind the last one; line_of, column_of: the line and column of a place; refusal_line: the line.
use Rattle.std.specs.Prelude.{cond, List, [], ◌∷◌, ◌++◌, ℕ, ◌+◌, eqb, take}
use Rattle.lines.specs.Put.{told}

-- How many line feeds there are.
unfoldable pub feeds : List ℕ → ℕ
feeds [] = 0
feeds (b ∷ bs) = cond (eqb b 10) 1 0 + feeds bs

-- How many bytes stand behind the last line feed, where n others, none of them a line feed, stand before these.
unfoldable pub since : ℕ → List ℕ → ℕ
since n [] = n
since n (b ∷ bs) = since (cond (eqb b 10) 0 (n + 1)) bs

-- The line of the byte at a place, from 1: one more than the line feeds before it.
abbrev pub line_of : List ℕ → ℕ → ℕ
line_of text place = 1 + feeds (take place text)

-- Its column, from 1: one more than the bytes between it and the last line feed before it, or the text's start.
abbrev pub column_of : List ℕ → ℕ → ℕ
column_of text place = 1 + since 0 (take place text)

-- refused N at P, line L, column C
abbrev pub refusal_line : ℕ → ℕ → ℕ → ℕ → List ℕ
refusal_line number place line column =
    told (114 ∷ 101 ∷ 102 ∷ 117 ∷ 115 ∷ 101 ∷ 100 ∷ 32 ∷ []) number
    ++ (told (32 ∷ 97 ∷ 116 ∷ 32 ∷ []) place
    ++ (told (44 ∷ 32 ∷ 108 ∷ 105 ∷ 110 ∷ 101 ∷ 32 ∷ []) line ++ (told (44 ∷ 32 ∷ 99 ∷ 111 ∷ 108 ∷ 117 ∷ 109 ∷ 110 ∷ 32 ∷ []) column ++ (10 ∷ []))))
