-- Cells, events and files; what a cell shows under values; well-formedness; right values (docs/FORMAT.md).
-- Cell, Event, File; Table, Run: a file's cells and events by number; Reads, message: what a cell shows; Part, Within: what a cell holds;
-- WellFormed: what an LN may hold; Right: when messages are right.
use Rattle.std.specs.Prelude.{◌≡◌, List, ℕ, zero, suc, ◌<◌, get_or}
use Rattle.std.proofs.Math.Option.{Option, some}
use Rattle.std.proofs.Math.ListN.{get_elem?}
use Rattle.model.specs.Message.{One, App, Two, Pair, Seal, Message, atom, one, two, Built}

-- A cell: an atom with its name, a variable of its own, or of a kind with one part or with two, the parts given by their cells' numbers.
pub data Cell : Type 0 where
  AT : ℕ → Cell
  VA : Cell
  ONE : One → ℕ → Cell
  TWO : Two → ℕ → ℕ → Cell

-- The cell of a pair.
abbrev pub PR : ℕ → ℕ → Cell
PR l r = TWO Pair l r

-- The cell of a seal: its body and its key.
abbrev pub SE : ℕ → ℕ → Cell
SE b k = TWO Seal b k

-- The cell of an application: its function and its argument.
abbrev pub AP : ℕ → ℕ → Cell
AP f a = ONE (App f) a

-- An event: the intruder must make what a cell shows, or learns it.
pub data Event : Type 0 where
  MK : ℕ → Event
  LN : ℕ → Event

-- A file: its cells and its events, each numbered from 0 in order of appearance.
pub record File : Type 0 where
  pub cells : List Cell
  pub events : List Event

-- A table gives each number its cell.
abbrev pub Table : Type 0
Table = ℕ → Cell

-- A run gives each position its event, or none.
abbrev pub Run : Type 0
Run = ℕ → Option Event

-- The table of a list of cells; beyond them stands his own name.
abbrev pub table_of : List Cell → Table
table_of cells c = get_or cells c (AT 0)

-- The run of a list of events.
abbrev pub run_of : List Event → Run
run_of events p = get_elem? events p

-- What a cell shows, if a variable has the value v and m gives the messages of the parts.
abbrev pub look : Message → (ℕ → Message) → Cell → Message
look v m (AT n) = atom n
look v m VA = v
look v m (ONE g a) = one g (m a)
look v m (TWO h l r) = two h (m l) (m r)

-- `Reads T ρ m`: under the values ρ of the variables each cell c shows the message m c.
abbrev pub Reads : Table → (ℕ → Message) → (ℕ → Message) → Type 0
Reads T ρ m = (c : ℕ) → m c ≡ look (ρ c) m (T c)

-- What the cell c shows, computed n steps down the table.
unfoldable pub shown : Table → (ℕ → Message) → ℕ → ℕ → Message
shown T ρ zero c = atom 0
shown T ρ (suc n) c = look (ρ c) (shown T ρ n) (T c)

-- What the cell c shows under the values ρ: as parts have lower numbers, c + 1 steps are enough.
abbrev pub message : Table → (ℕ → Message) → ℕ → Message
message T ρ c = shown T ρ (suc c) c

-- `Part k d`: d is the number of a part of the cell k.
pub data Part : Cell → ℕ → Type 0 where
  in_arg : {g : One} {a : ℕ} → Part (ONE g a) a
  in_left : {h : Two} {l r : ℕ} → Part (TWO h l r) l
  in_right : {h : Two} {l r : ℕ} → Part (TWO h l r) r

-- `Within T v c`: cell v is cell c, or stands in a part of it.
pub data Within (T : Table) (v : ℕ) : ℕ → Type 0 where
  here : {c : ℕ} → v ≡ c → Within T v c
  down : {c d : ℕ} → Part (T c) d → Within T v d → Within T v c

-- A part's number is lower than its own cell's number.
abbrev pub Lower : Table → Type 0
Lower T = (c d : ℕ) → Part (T c) d → d < c

-- A variable that an LN message holds is also held by the message of an earlier MK.
abbrev pub WellFormed : Table → Run → Type 0
WellFormed T ev = (p c v : ℕ) → ev p ≡ some (LN c) → T v ≡ VA → Within T v c → (q : ℕ) × (t : ℕ) × (q < p) × (ev q ≡ some (MK t)) × Within T v t

-- The cell c is learnt before position p.
abbrev pub Learnt : Run → ℕ → ℕ → Type 0
Learnt ev p c = (q : ℕ) × (q < p) × (ev q ≡ some (LN c))

-- The message x is known before position p: a cell that shows it was learnt.
abbrev pub Known : Run → (ℕ → Message) → ℕ → Message → Type 0
Known ev m p x = (c : ℕ) × Learnt ev p c × (x ≡ m c)

-- For each MK its message can be built from the messages of the LN events standing before it.
abbrev pub Makable : Run → (ℕ → Message) → Type 0
Makable ev m = (p t : ℕ) → ev p ≡ some (MK t) → Built (Known ev m p) (m t)

-- The messages m are right. What else a file may ask of them is one more field.
pub record Right (ev : Run) (m : ℕ → Message) : Type 0 where
  pub makes : Makable ev m

-- The message x is learnt at some position: what build marks and reducing build from.
abbrev pub Heard : Run → (ℕ → Message) → Message → Type 0
Heard ev m x = (c : ℕ) × (p : ℕ) × (ev p ≡ some (LN c)) × (x ≡ m c)

-- `Ground T m`: each cell c shows m c, with every variable put to his own name. For a file without variables these are its messages.
abbrev pub Ground : Table → (ℕ → Message) → Type 0
Ground T m = Reads T (λ c. atom 0) m
