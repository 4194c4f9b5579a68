-- The cells so far as they are stored, and what it is to enter a message.
-- In, Ready, Sound: messages each with its parts before it, none twice; key_of: the word of a message; Stored: how they are stored; Put, PutAt, Enters: a message entered; Listed, PairsUp: the items of a list.
use Rattle.std.specs.Prelude.{◌≡◌, Bool, true, false, cond, ℕ, ◌+◌, ◌≤◌, ◌<◌, ltb, length, get_or, set, replicate, Option, Some, None}
use mathlib.Core.List.{List, [], ◌∷◌, ◌++◌, Memᴰ}
use Rattle.model.specs.Message.{App}
use Rattle.model.specs.Stored.{word_of}
use Rattle.grammar.specs.Typed.{Typed, name, variable, one, two, paired}
use Rattle.grammar.specs.Filed.{enter, entered, place, cell_of}
use Rattle.typing.specs.declared.store.Store.{Store}
use Rattle.typing.specs.declared.store.Items.{Items}

-- ---- messages

-- The message stands among the others.
abbrev pub In : List Typed → Typed → Type 0
In trees t = Memᴰ t trees

-- The message has numbers in range and its parts stand among the others.
abbrev pub Ready : List Typed → Typed → Type 0
Ready trees (name n) = n ≤ 65535
Ready trees (variable n) = n ≤ 65535
Ready trees (one (App f) t) = (f ≤ 255) × In trees t
Ready trees (two h t u) = In trees t × In trees u

-- Each message is new, and its parts stand before it.
pub data Sound : List Typed → Type 0 where
  none : Sound []
  new : {trees : List Typed} (t : Typed) → Sound trees → Ready trees t → (In trees t → ⊥) → Sound (trees ++ (t ∷ []))

-- ---- words

-- The number of a variable.
abbrev pub tag : Typed → ℕ
tag (name n) = 0
tag (variable n) = n
tag (one g t) = 0
tag (two h t u) = 0

-- The word of a message: that of its cell, a variable's with its number added.
abbrev pub key_of : List Typed → Typed → ℕ
key_of trees t = word_of (cell_of trees t) + tag t

-- The words are those of the messages.
pub record WordsOf (trees : List Typed) (words : List ℕ) (count : ℕ) : Type 0 where
  pub counts : count ≡ length trees
  pub room : length trees ≤ 128
  pub long : length words ≡ 128
  pub keys : (c : ℕ) → c < length trees → get_or words c 0 ≡ key_of trees (get_or trees c (name 0))

-- The messages are stored; or there are more than 128.
pub data Stored (trees : List Typed) (s : Store) : Type 0 where
  fits : s.full ≡ false → WordsOf trees s.words s.count → Stored trees s
  over : s.full ≡ true → 128 < length trees → Stored trees s

-- ---- entering

-- The cells with a message entered, and the number of its cell.
pub record Put : Type 0 where
  pub store : Store
  pub cell : ℕ

abbrev pub put : Store → ℕ → Put
put s c = record { store = s; cell = c }

-- The messages are stored, and the cell is that of t.
pub record PutAt (trees : List Typed) (t : Typed) (p : Put) : Type 0 where
  pub stored : Stored trees p.store
  pub cell : p.store.full ≡ false → p.cell ≡ place trees t

-- The first place of the word among so many, at most 128.
abbrev pub FoundAt : List ℕ → ℕ → ℕ → Option ℕ → Type 0
FoundAt words count word (Some c) = (c < count) × (c < 128) × (get_or words c 0 ≡ word)
FoundAt words count word None = (c : ℕ) → c < count → c < 128 → get_or words c 0 ≡ word → ⊥

-- One more word behind the others, if there is room.
abbrev pub added : Store → ℕ → Put
added s word =
    cond (ltb s.count 128)
    (record { store = record { words = set s.words s.count word; count = s.count + 1; full = s.full }; cell = s.count })
    (record { store = record { words = s.words; count = s.count; full = true }; cell = 0 })

-- Whatever message the word is that of is entered, if it is not there.
abbrev pub Enters : Store → ℕ → Put → Type 0
Enters s word p = (trees : List Typed) (t : Typed) → Sound trees → Ready trees t → Stored trees s → (s.full ≡ false → word ≡ key_of trees t) → PutAt (enter trees t) t p

-- ---- lists

-- No items.
abbrev pub no_items : Items
no_items = record { cells = replicate 128 0; count = 0; more = false }

-- One more item, if there is room.
abbrev pub with_item : Items → ℕ → Items
with_item i cell =
    cond (ltb i.count 128)
    (record { cells = set i.cells i.count cell; count = i.count + 1; more = i.more })
    (record { cells = i.cells; count = i.count; more = true })

-- Too many cells, if so said.
abbrev pub or_full : Store → Bool → Store
or_full s true = record { words = s.words; count = s.count; full = true }
or_full s false = s

-- The cells of some messages, in order; or there are more than 128.
pub data Listed (trees : List Typed) (us : List Typed) (i : Items) : Type 0 where
  whole : i.more ≡ false → i.count ≡ length us → length us ≤ 128 → length i.cells ≡ 128 →
      ((c : ℕ) → c < length us → get_or i.cells c 0 ≡ place trees (get_or us c (name 0))) → Listed trees us i
  many : i.more ≡ true → 128 < length us → i.count ≤ 128 → Listed trees us i

-- Some messages and one behind them, nested to the right.
abbrev pub right_of : List Typed → Typed → Typed
right_of [] t = t
right_of (u ∷ us) t = paired u (right_of us t)

-- Their pairs, the last first.
abbrev pub pairs_of : List Typed → Typed → List Typed
pairs_of [] t = []
pairs_of (u ∷ us) t = pairs_of us t ++ (right_of (u ∷ us) t ∷ [])

-- All stand among the others.
abbrev pub AllIn : List Typed → List Typed → Type 0
AllIn trees us = (u : Typed) → Memᴰ u us → In trees u

-- The pairs of a list are entered.
abbrev pub PairsUp : Store → Items → ℕ → Put → Type 0
PairsUp s items last p = (trees us : List Typed) (t : Typed) → Sound trees → AllIn trees us → In trees t → Stored trees s →
    (s.full ≡ false → (last ≡ place trees t) × Listed trees us items) → (items.more ≡ true → 128 < length us) → PutAt (entered trees (pairs_of us t)) (right_of us t) p
