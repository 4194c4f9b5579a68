-- What typed text says: trees with variables, learnt or made.
-- Typed: a message as typed, its variables by their numbers; paired, sealed, applied: short names; shows: its message under values; PartOf, Holds: what stands in it; Entry: what a line says.
use Rattle.std.specs.Prelude.{ℕ}
use Rattle.model.specs.Message.{One, App, Two, Pair, Seal, Message}

-- A message as typed: an atom with its name, a variable with its number (the same number is the same variable), or of a kind with one part or with two.
pub data Typed : Type 0 where
  name : ℕ → Typed
  variable : ℕ → Typed
  one : One → Typed → Typed
  two : Two → Typed → Typed → Typed

-- The pair of t and u.
abbrev pub paired : Typed → Typed → Typed
paired t u = two Pair t u

-- The body t sealed under the key u.
abbrev pub sealed : Typed → Typed → Typed
sealed t u = two Seal t u

-- The function f applied to t.
abbrev pub applied : ℕ → Typed → Typed
applied f t = one (App f) t

-- The message that t shows if the variable n has the value ρ n.
unfoldable pub shows : (ℕ → Message) → Typed → Message
shows ρ (name n) = Message.atom n
shows ρ (variable n) = ρ n
shows ρ (one g t) = Message.one g (shows ρ t)
shows ρ (two h t u) = Message.two h (shows ρ t) (shows ρ u)

-- `PartOf t u`: u is a part of t.
pub data PartOf : Typed → Typed → Type 0 where
  arg : {g : One} {t : Typed} → PartOf (one g t) t
  left : {h : Two} {t u : Typed} → PartOf (two h t u) t
  right : {h : Two} {t u : Typed} → PartOf (two h t u) u

-- `Holds n t`: the variable n stands in t.
pub data Holds (n : ℕ) : Typed → Type 0 where
  itself : Holds n (variable n)
  inside : {t u : Typed} → PartOf t u → Holds n u → Holds n t

-- What a line says: the intruder learns a message, or must make it.
pub data Entry : Type 0 where
  learn : Typed → Entry
  make : Typed → Entry

-- Its message.
abbrev pub tree_of : Entry → Typed
tree_of (learn t) = t
tree_of (make t) = t
