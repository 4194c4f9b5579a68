-- What readers of the grammar find from a position on: the contracts of the readers cite it. No promise of a public function rests on believing it.
-- Phrase: what is read; number, message, list, line: the phrases of the grammar; token, then: bytes, and one phrase behind another; joins: messages before a list; Finds: what is found.
use Rattle.std.specs.Prelude.{◌≡◌, List, [], ◌∷◌, ◌++◌, ◌⊎◌, ℕ, ◌+◌, ◌≤◌, ◌<◌, length, drop}
use Rattle.grammar.specs.Grammar.{decimal, Message, atom, variable, apply, seal, group, Messages, last, more, Line, Text, bytes_of, nested, message_text, list_text, line_text, Shallow}

-- ---- phrases

-- What may be written at a place: its text, and the bytes that cannot stand behind it as a part of it.
pub record Phrase : Type 1 where
  pub Of : Type 0
  pub text : Of → Text
  pub Ends : Of → ℕ → Type 0

-- The byte is no digit.
abbrev pub NoDigit : ℕ → Type 0
NoDigit c = (c < 48) ⊎ (57 < c)

abbrev mutual
  -- The byte c does not go on with the message: it is no further digit of a number at its end.
  pub MessageEnds : Message → ℕ → Type 0
  MessageEnds (atom n h) c = NoDigit c
  MessageEnds (variable n h) c = NoDigit c
  MessageEnds (apply f h l) c = Unit
  MessageEnds (seal l k) c = MessageEnds k c
  MessageEnds (group l) c = Unit

  -- Nor with the list: it is no comma.
  pub ListEnds : Messages → ℕ → Type 0
  ListEnds (last m) c = MessageEnds m c × (c ≡ 44 → ⊥)
  ListEnds (more m l) c = ListEnds l c

-- A number up to a bound, its digits at the nesting d.
abbrev pub number : ℕ → ℕ → Phrase
number bound d = record { Of = (n : ℕ) × (n ≤ bound); text = λ n. nested d (decimal n.0); Ends = λ n c. NoDigit c }

-- A message of the nesting d, a list of the nesting d, a line.
abbrev pub message : ℕ → Phrase
message d = record { Of = Message; text = λ m. message_text m d; Ends = MessageEnds }

abbrev pub list : ℕ → Phrase
list d = record { Of = Messages; text = λ l. list_text l d; Ends = ListEnds }

abbrev pub line : Phrase
line = record { Of = Line; text = line_text; Ends = λ l c. Unit }

-- These bytes and no others, at the nesting d.
abbrev pub token : ℕ → List ℕ → Phrase
token d bytes = record { Of = Unit; text = λ u. nested d bytes; Ends = λ u c. Unit }

-- One phrase behind another.
abbrev pub then : Phrase → Phrase → Phrase
then A B = record { Of = A.Of × B.Of; text = λ p. A.text p.0 ++ B.text p.1; Ends = λ p c. B.Ends p.1 c }

-- The messages ms, each with a comma behind it, before a list.
abbrev pub joins : List Message → Messages → Messages
joins [] l = l
joins (m ∷ ms) l = more m (joins ms l)

-- ---- what is found

-- The bytes of s from i to j are those of w, none nested deeper than 16.
pub record Runs (s : List ℕ) (i j : ℕ) (w : Text) : Type 0 where
  pub bytes : drop i s ≡ bytes_of w ++ drop j s
  pub end : j ≡ i + length w
  pub shallow : Shallow w

-- What is found: a phrase up to a position, a byte that cannot stand where it does (or the text's end), a byte nested too deep.
pub data Found (A : Type 0) : Type 0 where
  read : A → ℕ → Found A
  wrong : ℕ → Found A
  deep : ℕ → Found A

module _ (P : Phrase) where
  -- What stands behind does not go on with the phrase.
  abbrev pub Closed : P.Of → List ℕ → Type 0
  Closed a [] = Unit
  Closed a (c ∷ rest) = P.Ends a c

  -- No phrase, with a byte behind it that does not go on with it, begins with these bytes, or is a part of them.
  abbrev pub Fails : List ℕ → Type 0
  Fails front = (a : P.Of) (c : ℕ) (behind rest : List ℕ) → P.Ends a c → bytes_of (P.text a) ++ (c ∷ behind) ≡ front ++ rest → ⊥

  -- `Finds s i o`: o is what is found in s from i on.
  pub data Finds (s : List ℕ) (i : ℕ) : Found P.Of → Type 0 where
    -- a phrase, from i to j
    reads : (a : P.Of) (j : ℕ) → Runs s i j (P.text a) → Closed a (drop j s) → Finds s i (read a j)
    -- some phrase begins so, but goes on behind the end of s, or none has the byte j there
    fails : (j : ℕ) (a : P.Of) (w rest : Text) → P.text a ≡ w ++ rest → Runs s i j w → (drop j s ≡ [] → rest ≡ [] → ⊥) →
        ((b : ℕ) (behind : List ℕ) → drop j s ≡ b ∷ behind → Fails (bytes_of w ++ (b ∷ []))) → Finds s i (wrong j)
    -- some phrase begins so and has the byte j there, nested too deep
    sinks : (j : ℕ) (a : P.Of) (w : Text) (b n : ℕ) (rest : Text) (behind : List ℕ) → P.text a ≡ w ++ ((b, n) ∷ rest) → Runs s i j w → 16 < n → drop j s ≡ b ∷ behind →
        Finds s i (deep j)
