-- How a table and a run lie in words: a cell as its kind and its two field bytes, an event as its kind and its cell. The byte above the kind is free, and so is the one between
-- an event's kind and its cell.
-- cell_in, table_in: words read as a table; event_in, run_in: words read as a run; word_of, event_word: the word of a cell and of an event; row: the 128 words of a list.
use Rattle.std.specs.Prelude.{cond, List, ◌++◌, map, ℕ, zero, suc, ◌+◌, ◌-◌, ◌*◌, ◌/◌, ◌%◌, ltb, length, get_or, replicate}
use Rattle.std.proofs.Math.Option.{some, none}
use Rattle.model.specs.Case.{Cell, AT, VA, ONE, TWO, PR, SE, AP, Event, MK, LN, Table, Run}
use Rattle.model.specs.Reduce.{kind, one_field}

-- The cell of a kind, 0 to 4, with the field bytes a and b. A kind that there is not shows his own name.
abbrev pub cell_at : ℕ → ℕ → ℕ → Cell
cell_at zero a b = AT (a * 256 + b)
cell_at (suc zero) a b = VA
cell_at (suc (suc zero)) a b = PR a b
cell_at (suc (suc (suc zero))) a b = SE a b
cell_at (suc (suc (suc (suc zero)))) a b = AP a b
cell_at (suc (suc (suc (suc (suc n))))) a b = AT 0

-- The cell of a word.
abbrev pub cell_in : ℕ → Cell
cell_in w = cell_at (w / 65536 % 256) (w / 256 % 256) (w % 256)

-- The table that lies in 128 words. Past them stands his own name.
abbrev pub table_in : List ℕ → Table
table_in words c = cond (ltb c 128) (cell_in (get_or words c 0)) (AT 0)

-- The first field byte of a cell.
abbrev pub first : Cell → ℕ
first (AT n) = n / 256
first VA = 0
first (ONE g a) = one_field g
first (TWO h l r) = l

-- The second.
abbrev pub second : Cell → ℕ
second (AT n) = n % 256
second VA = 0
second (ONE g a) = a
second (TWO h l r) = r

-- The word of a cell.
abbrev pub word_of : Cell → ℕ
word_of k = kind k * 65536 + first k * 256 + second k

-- The event of a kind, 0 for MK and 1 for LN, with its cell. A kind that there is not asks for his own name.
abbrev pub event_at : ℕ → ℕ → Event
event_at zero c = MK c
event_at (suc zero) c = LN c
event_at (suc (suc n)) c = MK 128

-- The event of a word.
abbrev pub event_in : ℕ → Event
event_in w = event_at (w / 65536 % 256) (w % 256)

-- The run of n events that lies in words.
abbrev pub run_in : ℕ → List ℕ → Run
run_in n words p = cond (ltb p n) (some (event_in (get_or words p 0))) none

-- The kind of an event.
abbrev pub asks : Event → ℕ
asks (MK c) = 0
asks (LN c) = 1

-- The cell of an event.
abbrev pub aim : Event → ℕ
aim (MK c) = c
aim (LN c) = c

-- The word of an event.
abbrev pub event_word : Event → ℕ
event_word e = asks e * 65536 + aim e

-- The 128 words of a list: those of its elements, then zeros.
abbrev pub row : {A : Type 0} → (A → ℕ) → List A → List ℕ
row word xs = map word xs ++ replicate (128 - length xs) 0
