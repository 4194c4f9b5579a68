-- Case files as bytes: their records, and what is refused (docs/FORMAT.md).
-- Kind, mark, width: the records; check: the tests within a record; read_file: what a file is read as; file_bytes: a file's bytes.
use Rattle.std.specs.Prelude.{Bool, true, false, cond, not, List, [], ◌∷◌, ◌++◌, ℕ, zero, suc, ◌+◌, ◌*◌, ◌/◌, ◌%◌, length, get_or, drop, eqb, ltb, leb}
use Rattle.std.proofs.Math.Option.{Option, some, none}
use Rattle.model.specs.Message.{App, Two}
use Rattle.model.specs.Case.{Cell, AT, VA, ONE, TWO, PR, SE, AP, Event, MK, LN, File, Table, table_of}

-- A record is exactly one of eight kinds.
pub data Kind : Type 0 where
  Atom Variable Pair Seal Apply Make Learn End : Kind

-- The kinds, in the order of the table in docs/FORMAT.md.
abbrev pub kinds : List Kind
kinds = Atom ∷ Variable ∷ Pair ∷ Seal ∷ Apply ∷ Make ∷ Learn ∷ End ∷ []

-- Each record starts with a two-byte mark in ASCII: AT, VA, PR, SE, AP, MK, LN, EN.
abbrev pub mark : Kind → List ℕ
mark Atom = 65 ∷ 84 ∷ []
mark Variable = 86 ∷ 65 ∷ []
mark Pair = 80 ∷ 82 ∷ []
mark Seal = 83 ∷ 69 ∷ []
mark Apply = 65 ∷ 80 ∷ []
mark Make = 77 ∷ 75 ∷ []
mark Learn = 76 ∷ 78 ∷ []
mark End = 69 ∷ 78 ∷ []

-- How many bytes of fields follow it.
abbrev pub width : Kind → ℕ
width Atom = 2
width Variable = 0
width Pair = 2
width Seal = 2
width Apply = 2
width Make = 1
width Learn = 1
width End = 0

-- The cell records.
abbrev pub is_cell : Kind → Bool
is_cell Atom = true
is_cell Variable = true
is_cell Pair = true
is_cell Seal = true
is_cell Apply = true
is_cell Make = false
is_cell Learn = false
is_cell End = false

-- The event records; EN is neither.
abbrev pub is_event : Kind → Bool
is_event Atom = false
is_event Variable = false
is_event Pair = false
is_event Seal = false
is_event Apply = false
is_event Make = true
is_event Learn = true
is_event End = false

-- The two bytes at the front of the rest of a file are those of a mark.
abbrev pub begins : List ℕ → List ℕ → Bool
begins rest m = cond (eqb (get_or rest 0 0) (get_or m 0 0)) (eqb (get_or rest 1 0) (get_or m 1 0)) false

-- The first of some kinds whose mark stands at the front.
abbrev pub kind_among : List ℕ → List Kind → Option Kind
kind_among rest [] = none
kind_among rest (k ∷ ks) = cond (begins rest (mark k)) (some k) (kind_among rest ks)

-- The kind of the record at the front; none if its mark is not known.
unfoldable pub kind_of : List ℕ → Option Kind
kind_of rest = kind_among rest kinds

-- What a record says: a cell, an event, or the end.
pub data Record : Type 0 where
  cell : Cell → Record
  event : Event → Record
  end : Record

-- The record of a kind with the field bytes a and b. Numbers of two bytes have the high byte first.
abbrev pub record_of : Kind → ℕ → ℕ → Record
record_of Atom a b = cell (AT (a * 256 + b))
record_of Variable a b = cell VA
record_of Pair a b = cell (PR a b)
record_of Seal a b = cell (SE a b)
record_of Apply a b = cell (AP a b)
record_of Make a b = event (MK a)
record_of Learn a b = event (LN a)
record_of End a b = end

-- The record of the kind k at the front of the rest of a file.
abbrev pub record_at : List ℕ → Kind → Record
record_at rest k = record_of k (get_or rest 2 0) (get_or rest 3 0)

-- Some element passes the test.
unfoldable pub any_of : {A : Type 0} → (A → Bool) → List A → Bool
any_of test [] = false
any_of test (x ∷ xs) = cond (test x) true (any_of test xs)

-- The cell numbers that a record names.
abbrev pub numbers : Record → List ℕ
numbers (cell (AT n)) = []
numbers (cell VA) = []
numbers (cell (ONE g a)) = a ∷ []
numbers (cell (TWO h l r)) = l ∷ r ∷ []
numbers (event (MK c)) = c ∷ []
numbers (event (LN c)) = c ∷ []
numbers end = []

-- The variables of a cell c, if v gives those of its parts.
abbrev pub in_cell : (ℕ → List ℕ) → ℕ → Cell → List ℕ
in_cell v c (AT n) = []
in_cell v c VA = c ∷ []
in_cell v c (ONE g a) = v a
in_cell v c (TWO h l r) = v l ++ v r

-- The variables that the cell c holds, computed n steps down the table.
unfoldable pub variables : Table → ℕ → ℕ → List ℕ
variables T zero c = []
variables T (suc n) c = in_cell (variables T n) c (T c)

-- The variables that the cell c holds: as parts have lower numbers, c + 1 steps are enough.
abbrev pub held : Table → ℕ → List ℕ
held T c = variables T (suc c) c

-- The event is an MK whose message holds the variable v.
abbrev pub makes : Table → ℕ → Event → Bool
makes T v (MK t) = any_of (eqb v) (held T t)
makes T v (LN c) = false

-- The cell c shows a variable that no MK of the events held.
abbrev pub unheld : Table → List Event → ℕ → Bool
unheld T events c = any_of (λ v. not (any_of (makes T v) events)) (held T c)

-- 3: a cell after an event.
abbrev pub late : List Event → Kind → Bool
late [] k = false
late (e ∷ es) k = is_cell k

-- 4: the 129th cell or the 129th event.
abbrev pub too_many : File → Kind → Bool
too_many f k = cond (is_cell k) (leb 128 (length f.cells)) (cond (is_event k) (leb 128 (length f.events)) false)

-- 5: a part not lower than its own cell, or an event's cell not below the cell count. Either way not among the cells before it.
abbrev pub outside : File → Record → Bool
outside f r = any_of (leb (length f.cells)) (numbers r)

-- 6: an LN that shows a variable no earlier MK held.
abbrev pub loose : File → Record → Bool
loose f (cell c) = false
loose f (event (MK c)) = false
loose f (event (LN c)) = unheld (table_of f.cells) f.events c
loose f end = false

-- What the tests of a record find: a fault by its number, or the record's kind.
pub data Checked : Type 0 where
  fault : ℕ → Checked
  sound : Kind → Checked

-- The tests once the mark is there, in the order of docs/FORMAT.md.
unfoldable pub check_kind : List ℕ → File → Option Kind → Checked
check_kind rest f none = fault 2
check_kind rest f (some k) =
    cond (late f.events k) (fault 3)
    (cond (too_many f k) (fault 4)
    (cond (ltb (length rest) (2 + width k)) (fault 1)
    (cond (outside f (record_at rest k)) (fault 5)
    (cond (loose f (record_at rest k)) (fault 6)
    (sound k)))))

-- The tests of the record at the front of the rest of a file, after the cells and events of f.
unfoldable pub check : List ℕ → File → Checked
check rest f = cond (ltb (length rest) 2) (fault 1) (check_kind rest f (kind_of rest))

-- What a file is read as: refused with a number and a place, or accepted.
pub data Reading : Type 0 where
  refused : ℕ → ℕ → Reading
  accepted : File → Reading

-- After EN nothing follows (7).
abbrev pub ended : List ℕ → ℕ → File → Reading
ended rest at f = cond (ltb 2 (length rest)) (refused 7 (at + 2)) (accepted f)

-- Behind a sound record `more` reads on, with its cell or event added.
abbrev pub behind : (List ℕ → ℕ → File → Reading) → List ℕ → ℕ → File → ℕ → Record → Reading
behind more rest at f size (cell c) = more (drop size rest) (at + size) (record { cells = f.cells ++ (c ∷ []); events = f.events })
behind more rest at f size (event e) = more (drop size rest) (at + size) (record { cells = f.cells; events = f.events ++ (e ∷ []) })
behind more rest at f size end = ended rest at f

-- A fault is refused at the offset of the record's mark, or where it should be.
abbrev pub after : (List ℕ → ℕ → File → Reading) → List ℕ → ℕ → File → Checked → Reading
after more rest at f (fault n) = refused n at
after more rest at f (sound k) = behind more rest at f (2 + width k) (record_at rest k)

-- The rest of a file from the offset `at` on, after the cells and events of f, at most n records: the first one at fault decides.
unfoldable pub read_from : ℕ → List ℕ → ℕ → File → Reading
read_from zero rest at f = refused 1 at
read_from (suc n) rest at f = after (read_from n) rest at f (check rest f)

-- What the bytes of a file are read as. Of 257 records one is EN or at fault.
unfoldable pub read_file : List ℕ → Reading
read_file file = read_from 257 file 0 (record { cells = []; events = [] })

-- The offset of the first VA record from `at` on; the records of other cells have four bytes.
unfoldable pub variable_from : ℕ → List Cell → Option ℕ
variable_from at [] = none
variable_from at (AT n ∷ cells) = variable_from (at + 4) cells
variable_from at (VA ∷ cells) = some at
variable_from at (ONE g a ∷ cells) = variable_from (at + 4) cells
variable_from at (TWO h l r ∷ cells) = variable_from (at + 4) cells

-- The offset of the first VA of a file with these cells.
abbrev pub first_variable : List Cell → Option ℕ
first_variable cells = variable_from 0 cells

-- The bytes of a cell's record.
abbrev pub cell_bytes : Cell → List ℕ
cell_bytes (AT n) = mark Atom ++ (n / 256 ∷ n % 256 ∷ [])
cell_bytes VA = mark Variable
cell_bytes (ONE (App f) a) = mark Apply ++ (f ∷ a ∷ [])
cell_bytes (TWO Two.Pair l r) = mark Pair ++ (l ∷ r ∷ [])
cell_bytes (TWO Two.Seal b k) = mark Seal ++ (b ∷ k ∷ [])

-- The bytes of an event's record.
abbrev pub event_bytes : Event → List ℕ
event_bytes (MK c) = mark Make ++ (c ∷ [])
event_bytes (LN c) = mark Learn ++ (c ∷ [])

-- The records of a list, one after the other.
unfoldable pub joined : {A : Type 0} → (A → List ℕ) → List A → List ℕ
joined bytes [] = []
joined bytes (x ∷ xs) = bytes x ++ joined bytes xs

-- The bytes of a file: its cell records, its event records, EN.
abbrev pub file_bytes : File → List ℕ
file_bytes f = joined cell_bytes f.cells ++ (joined event_bytes f.events ++ mark End)
