-- Bare messages, the order of cells, and the reduced file.
-- Bare, Rest: what the file lists; height, kind, key: the order; Lists: cells in order; Reduces: the reduced file.
use Rattle.std.specs.Prelude.{◌≡◌, ◌↔◌, ℕ, ◌<◌, ◌+◌, ◌*◌, ◌^◌, max}
use mathlib.Core.List.{List, [], ◌∷◌, Memᴰ}
use Rattle.model.specs.Message.{Message, atom, one, two, Made, Built, One, App, Two, Pair, Seal, Held}
use Rattle.model.specs.Case.{Table, Ground, Cell, AT, VA, ONE, TWO, Lower}

-- No step that composes gives x from built messages.
abbrev pub Uncomposed : (Message → Type 0) → Message → Type 0
Uncomposed K x = (a b : Message) → Made x a b → Built K a → Built K b → ⊥

-- `Bare K x`: x can be built from K, but not by a step that composes.
abbrev pub Bare : (Message → Type 0) → Message → Type 0
Bare K x = Built K x × Uncomposed K x

-- What the reduced file lists: every bare message except name 0.
abbrev pub Rest : (Message → Type 0) → Message → Type 0
Rest K x = Built K x × Uncomposed K x × (x ≡ atom 0 → ⊥)

-- The height of a message: an atom has 0, any other one more than its highest part.
unfoldable pub height : Message → ℕ
height (atom n) = 0
height (one g a) = 1 + height a
height (two h a b) = 1 + max (height a) (height b)

-- The kinds are numbered in the order AT, (VA,) PR, SE, AP. Those with one part:
abbrev pub kind_one : One → ℕ
kind_one (App f) = 4

-- and those with two.
abbrev pub kind_two : Two → ℕ
kind_two Pair = 2
kind_two Seal = 3

-- The number of a cell's kind.
abbrev pub kind : Cell → ℕ
kind (AT n) = 0
kind VA = 1
kind (ONE g a) = kind_one g
kind (TWO h l r) = kind_two h

-- The field of a kind with one part that is no part: the function.
abbrev pub one_field : One → ℕ
one_field (App f) = f

-- Where a cell of a message of height h stands in the order: by height, then kind, then fields left to right. Names are below 2 ^ 16, numbers of cells and functions below 2 ^ 8.
unfoldable pub key : ℕ → Cell → ℕ
key h (AT n) = h * 2 ^ 35 + n
key h VA = 0
key h (ONE g a) = h * 2 ^ 35 + kind_one g * 2 ^ 32 + one_field g * 2 ^ 16 + a
key h (TWO t l r) = h * 2 ^ 35 + kind_two t * 2 ^ 32 + l * 2 ^ 16 + r

-- `Inside x y`: x is y, or stands in it.
pub data Inside (x : Message) : Message → Type 0 where
  whole : Inside x x
  deeper : {y z : Message} → Held y z → Inside x y → Inside x z

-- The first n cells of a table, with the messages m, list the messages of X, each once, in order.
pub record Lists (T : Table) (m : ℕ → Message) (n : ℕ) (X : Message → Type 0) : Type 0 where
  pub reads : Ground T m
  pub lower : Lower T
  pub solid : (c : ℕ) → c < n → T c ≡ VA → ⊥
  pub order : (c d : ℕ) → c < d → d < n → key (height (m c)) (T c) < key (height (m d)) (T d)
  pub all : (x : Message) → X x → (c : ℕ) × (c < n) × (m c ≡ x)
  pub only : (c : ℕ) → c < n → X (m c)

-- A list of numbers, each lower than those after it.
pub data Rising : List ℕ → Type 0 where
  none : Rising []
  more : {c : ℕ} {l : List ℕ} → ((d : ℕ) → Memᴰ d l → c < d) → Rising l → Rising (c ∷ l)

-- The reduced file of the learnt messages K: its n cells list the bare messages except name 0 and all that stands in them; its LN events name the former, in rising number.
pub record Reduces (K : Message → Type 0) (T : Table) (m : ℕ → Message) (n : ℕ) (learnt : List ℕ) : Type 0 where
  pub cells : Lists T m n (λ x. (y : Message) × Rest K y × Inside x y)
  pub rises : Rising learnt
  pub names : (c : ℕ) → Memᴰ c learnt ↔ ((c < n) × Rest K (m c))
