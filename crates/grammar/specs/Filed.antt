-- The case file of what was typed: cells come out in order of first completion, none twice.
-- completed: what a message completes, in order; trees_of: the first completions of all entries; file_of: the file; TooMany, is_loose: 4 and 6.
use Rattle.std.specs.Prelude.{Bool, true, false, cond, List, [], ◌∷◌, ◌++◌, map, ◌⊎◌, ℕ, zero, suc, ◌<◌, eqb, length}
use Rattle.model.specs.Message.{One, App, Two, Pair, Seal}
use Rattle.model.specs.Case.{Cell, AT, VA, ONE, TWO, Event, MK, LN, File}
use Rattle.model.specs.Format.{any_of, event, loose}
use Rattle.grammar.specs.Typed.{Typed, name, variable, one, two, Entry, learn, make, tree_of}

-- ---- equal messages are one cell

-- Two kinds with one part are one.
abbrev pub same_one : One → One → Bool
same_one (App f) (App g) = eqb f g

-- Two kinds with two parts are one.
abbrev pub same_two : Two → Two → Bool
same_two Pair Pair = true
same_two Pair Seal = false
same_two Seal Pair = false
same_two Seal Seal = true

-- Two messages as typed are one: the same number is the same variable.
unfoldable pub same : Typed → Typed → Bool
same (name n) (name m) = eqb n m
same (name n) (variable m) = false
same (name n) (one g a) = false
same (name n) (two h a b) = false
same (variable n) (name m) = false
same (variable n) (variable m) = eqb n m
same (variable n) (one g a) = false
same (variable n) (two h a b) = false
same (one g a) (name m) = false
same (one g a) (variable m) = false
same (one g a) (one f b) = cond (same_one g f) (same a b) false
same (one g a) (two h b c) = false
same (two h a b) (name m) = false
same (two h a b) (variable m) = false
same (two h a b) (one g c) = false
same (two h a b) (two k c d) = cond (same_two h k) (cond (same a c) (same b d) false) false

-- ---- cells in order of first completion

-- What a message completes: what its parts complete, from the left, then itself.
unfoldable pub completed : Typed → List Typed
completed (name n) = name n ∷ []
completed (variable n) = variable n ∷ []
completed (one g t) = completed t ++ (one g t ∷ [])
completed (two h t u) = completed t ++ (completed u ++ (two h t u ∷ []))

-- What all entries complete, one after the other.
unfoldable pub completions : List Entry → List Typed
completions [] = []
completions (e ∷ es) = completed (tree_of e) ++ completions es

-- One more message, if it is not there.
abbrev pub enter : List Typed → Typed → List Typed
enter trees t = cond (any_of (same t) trees) trees (trees ++ (t ∷ []))

-- One message after the other.
unfoldable pub entered : List Typed → List Typed → List Typed
entered trees [] = trees
entered trees (t ∷ ts) = entered (enter trees t) ts

-- The messages of the file's cells.
abbrev pub trees_of : List Entry → List Typed
trees_of es = entered [] (completions es)

-- ---- the file

-- The number of a message's cell: the place of the message.
unfoldable pub place : List Typed → Typed → ℕ
place [] t = zero
place (u ∷ trees) t = cond (same t u) zero (suc (place trees t))

-- The cell of a message: its parts by the numbers of their cells.
abbrev pub cell_of : List Typed → Typed → Cell
cell_of trees (name n) = AT n
cell_of trees (variable n) = VA
cell_of trees (one g t) = ONE g (place trees t)
cell_of trees (two h t u) = TWO h (place trees t) (place trees u)

-- The event of an entry.
abbrev pub event_of : List Typed → Entry → Event
event_of trees (learn t) = LN (place trees t)
event_of trees (make t) = MK (place trees t)

-- The file with the cells of some messages and the events of some entries.
abbrev pub file_with : List Typed → List Entry → File
file_with trees es = record { cells = map (cell_of trees) trees; events = map (event_of trees) es }

-- The file of the entries.
abbrev pub file_of : List Entry → File
file_of es = file_with (trees_of es) es

-- ---- refusals of a line

-- 4: with the last entry there are more than 128 cells, or more than 128 events.
abbrev pub TooMany : List Entry → Type 0
TooMany es = (128 < length (file_of es).cells) ⊎ (128 < length (file_of es).events)

-- The event of e, behind those of es over the cells of some messages, is an LN that shows a variable no earlier MK held.
abbrev pub loose_in : List Typed → List Entry → Entry → Bool
loose_in trees es e = loose (file_with trees es) (event (event_of trees e))

-- 6: so is the entry e behind es.
abbrev pub is_loose : List Entry → Entry → Bool
is_loose es e = loose_in (trees_of (es ++ (e ∷ []))) es e
