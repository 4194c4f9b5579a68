-- What the reader of the event records says, in terms of model/specs/Format.
use Rattle.std.specs.Prelude.{◌≡◌, ◌⊎◌, cond, List, [], ℕ, ◌+◌, ◌≤◌, ◌<◌, leb, length, drop, Option, Some, None, Result, Ok, Err}
use Rattle.model.specs.Case as case
use Rattle.model.specs.Case.{VA, MK, LN, Part, Within}
use Rattle.model.specs.Stored.{table_in, aim, event_word}
use Rattle.model.specs.Format.{Kind, width, record_at, Record, loose, check, Checked, Reading, read_from, read_file}
use Rattle.theory.specs.Cells.{On}
use Rattle.refusals.specs.declared.Fault.{Fault}
use Rattle.refusals.specs.declared.Fault.TheVariants.{TooMany, NoSuchCell}
use Rattle.refusals.specs.declared.Refusal.{Refusal}
use Rattle.refusals.specs.Numbers.{number_of}
use Rattle.cells.specs.Cells.{as_event}
use Rattle.cells.specs.declared.Event.{Event}
use Rattle.cells.specs.declared.table.Table.{Table}
use Rattle.casefile.specs.declared.Row.{Row}
use Rattle.casefile.specs.Case.{stored}
use Rattle.casefile.specs.Cells.{Begun}

-- A file with so many cells and n events, whose next record is no cell's if it has no event.
pub record Among (rest : List ℕ) (f : case.File) (count n : ℕ) : Type 0 where
  pub cells : length f.cells ≡ count
  pub events : length f.events ≡ n
  pub begun : f.events ≡ [] → Begun rest

-- The record at the front is the event v; of an LN it is left to test its variables.
pub record Found (rest : List ℕ) (count n : ℕ) (v : case.Event) : Type 0 where
  pub tag : Kind
  pub says : record_at rest tag ≡ Record.event v
  pub size : 2 + width tag ≡ 3
  pub whole : 3 ≤ length rest
  pub room : n < 128
  pub below : aim v < count
  pub tested : (f : case.File) → Among rest f count n → check rest f ≡ cond (loose f (Record.event v)) (Checked.fault 6) (Checked.sound tag)

-- The record at the front is EN.
pub record Ended (rest : List ℕ) (count n : ℕ) : Type 0 where
  pub tag : Kind
  pub says : record_at rest tag ≡ Record.end
  pub whole : 2 ≤ length rest
  pub sound : (f : case.File) → Among rest f count n → check rest f ≡ Checked.sound tag

-- The step at a whole record of the event e, after n events over so many cells.
abbrev pub event_step : Event → ℕ → ℕ → Result Event Fault
event_step e count n = cond (leb 128 n) (Err TooMany) (cond (leb count (aim (as_event e))) (Err NoSuchCell) (Ok e))

-- What is found at the front of the rest of a file, after n events over so many cells: one more, the end, or a fault.
abbrev pub event_says : List ℕ → ℕ → ℕ → Result (Option Event) Fault → Type 0
event_says rest count n (Ok (Some e)) = Found rest count n (as_event e)
event_says rest count n (Ok None) = Ended rest count n
event_says rest count n (Err x) = (f : case.File) → Among rest f count n → check rest f ≡ Checked.fault (number_of x)

-- The parts of a cell have numbers below 128; the cell of an event has one.
abbrev pub PartsFit : case.Cell → Type 0
PartsFit k = (d : ℕ) → Part k d → d < 128

abbrev pub AimFits : case.Event → Type 0
AimFits v = aim v < 128

-- The marks r are the marks and the parts of a cell.
pub record PartsMarked (k : case.Cell) (marks r : List ℕ) : Type 0 where
  pub size : length r ≡ 128
  pub kept : (v : ℕ) → On marks v → On r v
  pub parts : (d : ℕ) → Part k d → On r d
  pub only : (v : ℕ) → On r v → On marks v ⊎ Part k v

-- The marks r are the marks and all that stands in the cell c; no more, if the marks hold the parts of what they hold.
pub record WithinMarked (T : case.Table) (marks : List ℕ) (c : ℕ) (r : List ℕ) : Type 0 where
  pub size : length r ≡ 128
  pub kept : (v : ℕ) → On marks v → On r v
  pub only : ((x d : ℕ) → On marks x → Part (T x) d → On marks d) → (v : ℕ) → On r v → On marks v ⊎ Within T v c
  pub all : (v : ℕ) → Within T v c → On r v

-- A cell is a variable, marked as held and not as made.
abbrev pub LooseAt : case.Cell → ℕ → ℕ → Type 0
LooseAt k held made = (k ≡ VA) × (held ≡ 1) × (made ≡ 1 → ⊥)

-- Some variable is marked as held and not as made.
abbrev pub LooseMarks : case.Table → List ℕ → List ℕ → Type 0
LooseMarks T held made = (v : ℕ) × (T v ≡ VA) × On held v × (On made v → ⊥)

-- The event is an LN that shows a variable not marked as made.
pub data Loose (T : case.Table) (made : List ℕ) : case.Event → Type 0 where
  shown : {v c : ℕ} → T v ≡ VA → Within T v c → (On made v → ⊥) → Loose T made (LN c)

-- The marks of what is made, after one event more: an MK makes all that stands in its cell.
abbrev pub marks_after : case.Table → List ℕ → case.Event → List ℕ → Type 0
marks_after T made (MK c) r = WithinMarked T made c r
marks_after T made (LN c) r = r ≡ made

-- The reply, events or a refusal, is that of the reading.
abbrev pub read_as : Result Row Refusal → List case.Cell → Reading → Type 0
read_as (Err e) cells reading = reading ≡ Reading.refused (number_of e.fault) e.place
read_as (Ok run) cells reading =
    (events : List case.Event) × (run ≡ stored event_word events) × (reading ≡ Reading.accepted (record { cells = cells; events = events }))

-- A file whose cell records, with these cells, end at `base`, where the rest begins; the cells lie in t.
pub record Context (rest : List ℕ) (base : ℕ) (t : Table) (file : List ℕ) (cells : List case.Cell) : Type 0 where
  pub part : rest ≡ drop base file
  pub count : t.count ≡ length cells
  pub shown : table_in t.words ≡ case.table_of cells
  pub begun : Begun rest
  pub whole : read_from 257 (drop base file) base (record { cells = cells; events = [] }) ≡ read_file file

-- What the reader of the event records gives back, for every such file.
abbrev pub EventsRead : List ℕ → ℕ → Table → Result Row Refusal → Type 0
EventsRead rest base t r = (file : List ℕ) (cells : List case.Cell) → Context rest base t file cells → read_as r cells (read_file file)
