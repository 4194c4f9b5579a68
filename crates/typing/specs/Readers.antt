-- What the readers of numbers, messages and lists find, in terms of the grammar.
-- wrong_at, Misread: refusals; DigitAt, NumberRead: numbers; PastByte, LeadAt: bytes; Completes: what a message completes is entered; PhraseFound, MessageRead, ListRead: what is found.
use Rattle.std.specs.Prelude.{◌≡◌, List, ℕ, ◌+◌, ◌≤◌, ◌<◌, length, get_or, Option, Some, None, Result, Ok, Err}
use Rattle.refusals.specs.declared.Fault.TheVariants.{WrongByte, TooDeep}
use Rattle.refusals.specs.declared.Refusal.{Refusal}
use Rattle.grammar.specs.Typed.{Typed}
use Rattle.grammar.specs.Grammar.{message_says, list_says}
use Rattle.grammar.specs.Filed.{entered, completed}
use Rattle.grammar.specs.Reader.{Phrase, Finds, read, wrong, deep, number, message, list}
use Rattle.typing.specs.declared.store.Store.{Store}
use Rattle.typing.specs.declared.message.Lead.{Lead}
use Rattle.typing.specs.declared.message.Lead.TheVariants as lead
use Rattle.typing.specs.Store.{Sound, Stored, PutAt, put}

-- ---- refusals

-- The byte at `at` is at fault.
abbrev pub wrong_at : ℕ → Refusal
wrong_at at = record { fault = WrongByte; place = at }

-- A phrase is not read: its first byte at fault, or the first one nested too deep.
pub data Misread (P : Phrase) (s : List ℕ) (at : ℕ) : Refusal → Type 0 where
  wrong_byte : (p : ℕ) → Finds P s at (wrong p) → Misread P s at (wrong_at p)
  too_deep : (p : ℕ) → Finds P s at (deep p) → Misread P s at (record { fault = TooDeep; place = p })

-- ---- numbers and bytes

-- The digit at i, if there is one.
abbrev pub DigitAt : List ℕ → ℕ → Option ℕ → Type 0
DigitAt s i (Some c) = (i < length s) × (get_or s i 0 ≡ 48 + c) × (c < 10)
DigitAt s i None = i < length s → (48 ≤ get_or s i 0) × (get_or s i 0 ≤ 57) → ⊥

-- The number at `at`, at whatever nesting.
abbrev pub NumberRead : List ℕ → ℕ → ℕ → Result (ℕ × ℕ) Refusal → Type 0
NumberRead s at bound (Ok (n, to)) = (h : n ≤ bound) × ((d : ℕ) → d ≤ 16 → Finds (number bound d) s at (read (n, h) to))
NumberRead s at bound (Err r) = (r ≡ wrong_at r.place) × ((d : ℕ) → d ≤ 16 → Finds (number bound d) s at (wrong r.place))

-- The byte b stands at `at`, and `to` is behind it; or it is the fault that it does not.
abbrev pub PastByte : List ℕ → ℕ → ℕ → Result ℕ Refusal → Type 0
PastByte s at b (Ok to) = (at < length s) × (get_or s at 0 ≡ b) × (to ≡ at + 1)
PastByte s at b (Err r) = ((at < length s) × (get_or s at 0 ≡ b) → ⊥) × (r ≡ wrong_at at)

-- No message begins with the byte.
abbrev pub NoLead : ℕ → Type 0
NoLead b = (b ≡ 97 → ⊥) × (b ≡ 88 → ⊥) × (b ≡ 102 → ⊥) × (b ≡ 123 → ⊥) × (b ≡ 40 → ⊥)

-- What begins at a place, by its first byte.
abbrev pub LeadAt : List ℕ → ℕ → Option Lead → Type 0
LeadAt s at None = at < length s → NoLead (get_or s at 0)
LeadAt s at (Some lead.Atom) = (at < length s) × (get_or s at 0 ≡ 97)
LeadAt s at (Some lead.Variable) = (at < length s) × (get_or s at 0 ≡ 88)
LeadAt s at (Some lead.Apply) = (at < length s) × (get_or s at 0 ≡ 102)
LeadAt s at (Some lead.Seal) = (at < length s) × (get_or s at 0 ≡ 123)
LeadAt s at (Some lead.Group) = (at < length s) × (get_or s at 0 ≡ 40)

-- From the store s on, all that t completes is entered; the last cell is that of t.
abbrev pub Completes : Store → Typed → Store → ℕ → Type 0
Completes s t s' cell = (trees : List Typed) → Sound trees → Stored trees s → PutAt (entered trees (completed t)) t (put s' cell)

-- What is found at `at` of a phrase, and what is entered for what it says.
abbrev pub PhraseFound : (P : Phrase) → (P.Of → Typed) → List ℕ → ℕ → Store → Result (ℕ × ℕ) Refusal → Store → Type 0
PhraseFound P says s at before (Ok (to, cell)) after = (a : P.Of) × Finds P s at (read a to) × Completes before (says a) after cell
PhraseFound P says s at before (Err r) after = Misread P s at r

-- A message of the nesting d; a list.
abbrev pub MessageRead : List ℕ → ℕ → ℕ → Store → Result (ℕ × ℕ) Refusal → Store → Type 0
MessageRead s at d before r after = PhraseFound (message d) message_says s at before r after

abbrev pub ListRead : List ℕ → ℕ → ℕ → Store → Result (ℕ × ℕ) Refusal → Store → Type 0
ListRead s at d before r after = PhraseFound (list d) list_says s at before r after
