-- What each reply says of an accepted file, and how a reply lies in a buffer.
-- FormOf, RightOf, RightListed, NoneRight: run and list check; EquatedBy, NeverEqual: equating; MarkList: build marks; ReducedTo: reducing; laid, Untouched, FileRefused, SameButList: replies and buffers.
use Rattle.std.specs.Prelude.{◌≡◌, List, ◌++◌, map, ℕ, ◌<◌, length, get_or, drop}
use Rattle.std.proofs.Math.Option.{none}
use Rattle.model.specs.Message.{Message, atom, Built}
use Rattle.model.specs.Case.{LN, File, table_of, run_of, message, Heard}
use Rattle.model.specs.Values.{RightValues, cell_of, Form, RightList, EquatingList}
use Rattle.model.specs.Reduce.{Reduces}
use Rattle.model.specs.Format.{read_file, refused, accepted, first_variable, file_bytes}

-- The list has the form of a value list of the file.
abbrev pub FormOf : File → List ℕ → Type 0
FormOf f list = Form (table_of f.cells) (length f.cells) list

-- Following the list never comes round, and the values are right.
abbrev pub RightOf : File → List ℕ → Type 0
RightOf f list = RightList (table_of f.cells) (run_of f.events) (λ v. cell_of (get_or list v 0))

-- The list has the form of a value list, and is right.
abbrev pub RightListed : File → List ℕ → Type 0
RightListed f list = FormOf f list × RightOf f list

-- No values are right.
abbrev pub NoneRight : File → Type 0
NoneRight f = (ρ : ℕ → Message) → RightValues (table_of f.cells) (run_of f.events) ρ → ⊥

-- The list is an equating list of the file's cells a and b.
abbrev pub EquatedBy : File → ℕ → ℕ → List ℕ → Type 0
EquatedBy f = EquatingList (table_of f.cells) (length f.cells)

-- No values make the cells a and b equal.
abbrev pub NeverEqual : File → ℕ → ℕ → Type 0
NeverEqual f a b = (ρ : ℕ → Message) → message (table_of f.cells) ρ a ≡ message (table_of f.cells) ρ b → ⊥

-- What the cells of a file without variables show.
abbrev pub messages_of : File → ℕ → Message
messages_of f = message (table_of f.cells) (λ c. atom 0)

-- What a file without variables lets the intruder learn.
abbrev pub HeardOf : File → Message → Type 0
HeardOf f = Heard (run_of f.events) (messages_of f)

-- A mark is 1 for what holds, and 0 for what does not.
pub data Marked (P : Type 0) : ℕ → Type 0 where
  set : P → Marked P 1
  unset : (P → ⊥) → Marked P 0

-- No variables; the list has for each cell the mark of what can be built from all LN messages.
abbrev pub MarkList : File → List ℕ → Type 0
MarkList f list =
    (first_variable f.cells ≡ none) × (length list ≡ length f.cells)
    × ((c : ℕ) → c < length f.cells → Marked (Built (HeardOf f) (messages_of f c)) (get_or list c 0))

-- No variables; the bytes are those of the reduced file.
abbrev pub ReducedTo : File → List ℕ → Type 0
ReducedTo f bytes =
    (first_variable f.cells ≡ none) × (g : File) × (learnt : List ℕ) × (file_bytes g ≡ bytes) × (g.events ≡ map LN learnt)
    × Reduces (HeardOf f) (table_of g.cells) (messages_of g) (length g.cells) learnt

-- A buffer with the reply at its front; no byte beyond it is touched.
abbrev pub laid : List ℕ → List ℕ → List ℕ
laid reply before = reply ++ drop (length reply) before

-- The reply is `said`, and the buffer is untouched.
abbrev pub Untouched : {A : Type 0} → A → A → List ℕ → List ℕ → Type 0
Untouched said reply before after = (reply ≡ said) × (after ≡ before)

-- A file at fault is refused with its number and place: so much the reply to it tells.
abbrev pub FileRefused : List ℕ → (ℕ → ℕ → Type 0) → Type 0
FileRefused file Tells = (number place : ℕ) → read_file file ≡ refused number place → Tells number place

-- Two buffers after the reply to a file are equal; or each has at its front a list that answers, and the bytes beyond it are equal.
pub data SameButList (Answers : File → List ℕ → Type 0) (file before after after' : List ℕ) : Type 0 where
  same : after ≡ after' → SameButList Answers file before after after'
  lists : (f : File) (list list' : List ℕ) → read_file file ≡ accepted f → Answers f list → Answers f list' → after ≡ laid list before → after' ≡ laid list' before →
      drop (length f.cells) after ≡ drop (length f.cells) after' → SameButList Answers file before after after'
