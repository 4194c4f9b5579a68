-- What a cell and an event that were taken apart show; the parts of a cell, what he composes it of and what it gives.
use Rattle.std.specs.Prelude.{◌≡◌, ℕ}
use Rattle.model.specs.Case as case
use Rattle.model.specs.Case.{AT, VA, ONE, TWO, PR, SE, AP, MK, LN}
use Rattle.model.specs.Message.{One, Two}
use Rattle.theory.specs.Cells.{Makes}
use Rattle.theory.specs.Classes.{Alike}
use Rattle.cells.specs.declared.Cell.{Cell}
use Rattle.cells.specs.declared.Cell.TheVariants as cell
use Rattle.cells.specs.declared.Event.{Event}
use Rattle.cells.specs.declared.Event.TheVariants as event
use Rattle.cells.specs.declared.Parts.{Parts}
use Rattle.cells.specs.declared.Parts.TheVariants as parts
use Rattle.cells.specs.declared.Opening.{Opening}
use Rattle.cells.specs.declared.Opening.TheVariants as opening
use Rattle.cells.specs.declared.Meeting.{Meeting}
use Rattle.cells.specs.declared.Meeting.TheVariants as meeting

abbrev pub as_cell : Cell → case.Cell
as_cell (cell.Atom n) = AT n
as_cell cell.Variable = VA
as_cell (cell.Pair l r) = PR l r
as_cell (cell.Seal b k) = SE b k
as_cell (cell.Apply f a) = AP f a

abbrev pub as_event : Event → case.Event
as_event (event.Make c) = MK c
as_event (event.Learn c) = LN c

-- The parts of a cell.
abbrev pub parts_of : case.Cell → Parts
parts_of (AT n) = parts.None
parts_of VA = parts.None
parts_of (ONE g a) = parts.One a
parts_of (TWO h l r) = parts.Two l r

-- What he composes a cell of: exactly what makes it.
pub data MadeOf (k : case.Cell) : Parts → Type 0 where
  none : ((a b : ℕ) → Makes k a b → ⊥) → MadeOf k parts.None
  one : {g : One} {a : ℕ} → k ≡ ONE g a → Makes k a a → MadeOf k (parts.One a)
  two : {h : Two} {a b : ℕ} → k ≡ TWO h a b → Makes k a b → MadeOf k (parts.Two a b)

-- What a cell gives once it is seen: a pair its parts, a seal its body once the key is built, nothing else anything.
pub data Opens (k : case.Cell) : Opening → Type 0 where
  shut : ((l r : ℕ) → k ≡ PR l r → ⊥) → ((b c : ℕ) → k ≡ SE b c → ⊥) → Opens k opening.Shut
  open_pair : {l r : ℕ} → k ≡ PR l r → Opens k (opening.Open l r)
  locked : {b c : ℕ} → k ≡ SE b c → Opens k (opening.Locked b c)

-- Two cells held against each other. A variable is like no cell.
pub data Meets (k l : case.Cell) : Meeting → Type 0 where
  unlike : (Alike {A = Unit} (λ d. tt) k l → ⊥) → Meets k l meeting.Unlike
  same : {n : ℕ} → k ≡ AT n → l ≡ AT n → Meets k l meeting.Same
  ones : {g : One} {a x : ℕ} → k ≡ ONE g a → l ≡ ONE g x → Meets k l (meeting.One a x)
  twos : {h : Two} {a b x y : ℕ} → k ≡ TWO h a b → l ≡ TWO h x y → Meets k l (meeting.Two a x b y)
