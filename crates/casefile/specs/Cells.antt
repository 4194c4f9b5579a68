-- What the reader of the cell records says, in terms of model/specs/Format.
use Rattle.std.specs.Prelude.{◌≡◌, false, cond, List, [], ℕ, ◌+◌, ◌≤◌, ◌<◌, leb, length, drop, Option, Some, None, Result, Ok, Err}
use Rattle.model.specs.Case as case
use Rattle.model.specs.Stored.{first, second, word_of, row, table_in}
use Rattle.model.specs.Format.{Kind, is_cell, width, record_at, Record, any_of, numbers, cell_bytes, check, Checked, Reading, read_from, read_file}
use Rattle.refusals.specs.declared.Fault.{Fault}
use Rattle.refusals.specs.declared.Fault.TheVariants.{TooMany, NoSuchCell}
use Rattle.refusals.specs.declared.Refusal.{Refusal}
use Rattle.refusals.specs.Numbers.{number_of}
use Rattle.cells.specs.Cells.{as_cell}
use Rattle.cells.specs.declared.Cell.{Cell}
use Rattle.cells.specs.declared.table.Table.{Table}
use Rattle.casefile.specs.declared.table.Cells.{Cells}
use Rattle.casefile.specs.Record.{Marked}

-- A file with n cells and no event.
pub record Before (f : case.File) (n : ℕ) : Type 0 where
  pub cells : length f.cells ≡ n
  pub events : f.events ≡ []

-- The record at the front is one more cell, c, whose own two bytes are bytes.
pub record Next (rest : List ℕ) (n : ℕ) (c : case.Cell) : Type 0 where
  pub tag : Kind
  pub says : record_at rest tag ≡ Record.cell c
  pub size : 2 + width tag ≡ length (cell_bytes c)
  pub fits : (first c < 256) × (second c < 256)
  pub whole : 2 + width tag ≤ length rest
  pub room : n < 128
  pub below : (x : ℕ) → case.Part c x → x < n
  pub sound : (f : case.File) → Before f n → check rest f ≡ Checked.sound tag

-- The record at the front is none of a cell: the events begin.
pub record Begun (rest : List ℕ) : Type 0 where
  pub tag : Kind
  pub marked : Marked rest tag
  pub event : is_cell tag ≡ false

-- The step at a whole record of the cell c, after n cells.
abbrev pub cell_step : Cell → ℕ → Result Cell Fault
cell_step c n = cond (leb 128 n) (Err TooMany) (cond (any_of (leb n) (numbers (Record.cell (as_cell c)))) (Err NoSuchCell) (Ok c))

-- What is found at the front of the rest of a file, after n cells: one more, the events' first record, or a fault.
abbrev pub cell_says : List ℕ → ℕ → Result (Option Cell) Fault → Type 0
cell_says rest n (Ok (Some c)) = Next rest n (as_cell c)
cell_says rest n (Ok None) = Begun rest
cell_says rest n (Err x) = (f : case.File) → Before f n → check rest f ≡ Checked.fault (number_of x)

-- The cells of a file whose events begin at `at`.
pub record Cut (file : List ℕ) (at : ℕ) (t : Table) : Type 0 where
  pub list : List case.Cell
  pub words : t.words ≡ row word_of list
  pub count : t.count ≡ length list
  pub shown : table_in t.words ≡ case.table_of list
  pub place : at ≤ length file
  pub begun : Begun (drop at file)
  pub rest : read_from 257 (drop at file) at (record { cells = list; events = [] }) ≡ read_file file

-- What the reader of the cell records gives back.
abbrev pub CellsRead : List ℕ → Result Cells Refusal → Type 0
CellsRead file (Ok r) = Cut file r.at r.table
CellsRead file (Err e) = read_file file ≡ Reading.refused (number_of e.fault) e.place
