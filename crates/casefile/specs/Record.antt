-- Marks and records as the reader holds them: the kinds and records of model/specs/Format, and what can stand in their place.
use Rattle.std.specs.Prelude.{◌≡◌, Bool, true, false, cond, List, ℕ, ◌+◌, ◌≤◌, ◌<◌, ltb, length, Result, Ok, Err}
use Rattle.std.proofs.Math.Option.{Option, some, none}
use Rattle.model.specs.Case as case
use Rattle.model.specs.Format.{Kind, kind_of, is_cell, width, record_at, Record, check, Checked}
use Rattle.refusals.specs.declared.Fault.{Fault}
use Rattle.refusals.specs.declared.Fault.TheVariants as fault
use Rattle.refusals.specs.declared.Fault.TheVariants.{UnknownMark}
use Rattle.refusals.specs.Numbers.{number_of}
use Rattle.cells.specs.Cells.{as_cell, as_event}
use Rattle.casefile.specs.declared.record.Kind.{Kind as Tag}
use Rattle.casefile.specs.declared.record.Kind.TheVariants as tag
use Rattle.casefile.specs.declared.record.Record.{Record as Rec}
use Rattle.casefile.specs.declared.record.Record.TheVariants as rec
use Rattle.casefile.specs.declared.record.Front.{Front}
use Rattle.casefile.specs.declared.record.Front.TheVariants as front

-- The kind that the reader's own stands for.
abbrev pub kind_for : Tag → Kind
kind_for tag.Atom = Kind.Atom
kind_for tag.Variable = Kind.Variable
kind_for tag.Pair = Kind.Pair
kind_for tag.Seal = Kind.Seal
kind_for tag.Apply = Kind.Apply
kind_for tag.Make = Kind.Make
kind_for tag.Learn = Kind.Learn
kind_for tag.End = Kind.End

-- The kind that a mark has; a fault where there is none.
abbrev pub as_mark : Option Kind → Result Tag Fault
as_mark none = Err UnknownMark
as_mark (some Kind.Atom) = Ok tag.Atom
as_mark (some Kind.Variable) = Ok tag.Variable
as_mark (some Kind.Pair) = Ok tag.Pair
as_mark (some Kind.Seal) = Ok tag.Seal
as_mark (some Kind.Apply) = Ok tag.Apply
as_mark (some Kind.Make) = Ok tag.Make
as_mark (some Kind.Learn) = Ok tag.Learn
as_mark (some Kind.End) = Ok tag.End

-- The kind whose mark stands at the front of the rest of a file.
unfoldable pub mark_at : List ℕ → Result Tag Fault
mark_at rest = cond (ltb (length rest) 2) (Err fault.Cut) (as_mark (kind_of rest))

-- What a record of the reader says.
abbrev pub record_says : Rec → Record
record_says (rec.Cell c) = Record.cell (as_cell c)
record_says (rec.Event e) = Record.event (as_event e)
record_says rec.End = Record.end

-- The record of a kind that is short of its fields.
abbrev pub short_as : Bool → Front
short_as b = cond b front.ShortCell front.ShortEvent

abbrev pub short_of : Tag → Front
short_of k = short_as (is_cell (kind_for k))

-- The mark of the kind k stands at the front of the rest of a file.
pub record Marked (rest : List ℕ) (k : Kind) : Type 0 where
  pub found : kind_of rest ≡ some k
  pub whole : 2 ≤ length rest

-- The whole record r stands at the front.
pub record Stands (rest : List ℕ) (r : Record) : Type 0 where
  pub tag : Kind
  pub marked : Marked rest tag
  pub whole : 2 + width tag ≤ length rest
  pub says : record_at rest tag ≡ r

-- The mark of a cell, or of no cell, stands at the front and its fields are cut.
pub record Short (rest : List ℕ) (cell : Bool) : Type 0 where
  pub tag : Kind
  pub marked : Marked rest tag
  pub is : is_cell tag ≡ cell
  pub short : length rest < 2 + width tag

-- What is found at the front of the rest of a file. A fault of the mark is one in any section.
abbrev pub front_says : List ℕ → Result Front Fault → Type 0
front_says rest (Ok (front.Whole r)) = Stands rest (record_says r)
front_says rest (Ok front.ShortCell) = Short rest true
front_says rest (Ok front.ShortEvent) = Short rest false
front_says rest (Err x) = (f : case.File) → check rest f ≡ Checked.fault (number_of x)
