-- The grammar of typed lines (docs/GRAMMAR.md): what is written, its bytes with their nesting, what it says, and the first byte at fault.
-- decimal: numbers; Message, Messages, Line: the productions; message_text, list_text, line_text: their bytes, each with its nesting; message_says, list_says, line_says: their one reading;
-- Stands, Begun: what lines begin with; Fault: 11 and 12.
use Rattle.std.specs.Prelude.{◌≡◌, cond, List, [], ◌∷◌, ◌++◌, map, ℕ, zero, suc, ◌+◌, ◌/◌, ◌%◌, ◌≤◌, ◌<◌, ltb, length}
use Rattle.grammar.specs.Typed.{Typed, name, paired, sealed, applied, Entry}

-- The last k decimal digits of n, as characters, without leading zeros.
unfoldable pub digits : ℕ → ℕ → List ℕ
digits zero n = []
digits (suc k) n = cond (ltb n 10) ((48 + n) ∷ []) (digits k (n / 10) ++ ((48 + n % 10) ∷ []))

-- A number in decimal, without leading zeros: it has no more than n + 1 digits.
abbrev pub decimal : ℕ → List ℕ
decimal n = digits (suc n) n

mutual
  -- A message of the grammar: "a" number, "X" number, "f" number "(" list ")", "{|" list "|}" message, "(" list ")".
  pub data Message : Type 0 where
    atom : (n : ℕ) → n ≤ 65535 → Message
    variable : (n : ℕ) → n ≤ 65535 → Message
    apply : (f : ℕ) → f ≤ 255 → Messages → Message
    seal : Messages → Message → Message
    group : Messages → Message

  -- A list: a message, or a message, "," and a list.
  pub data Messages : Type 0 where
    last : Message → Messages
    more : Message → Messages → Messages

-- A line: "learn" or "make", one space, a list, a line feed.
pub data Line : Type 0 where
  learn : Messages → Line
  make : Messages → Line

-- ---- the bytes of what is written, each with its nesting

-- Bytes, each with its nesting.
abbrev pub Text : Type 0
Text = List (ℕ × ℕ)

-- The bytes alone.
abbrev pub bytes_of : Text → List ℕ
bytes_of w = map (λ (b : ℕ × ℕ). b.0) w

-- Bytes that all have the nesting d.
abbrev pub nested : ℕ → List ℕ → Text
nested d bytes = map (λ b. (b, d)) bytes

unfoldable mutual
  -- A message of the nesting d. Its own bytes have that nesting; what is inside a bracket, and a seal's key, is one deeper.
  pub message_text : Message → ℕ → Text
  message_text (atom n h) d = nested d (97 ∷ decimal n)
  message_text (variable n h) d = nested d (88 ∷ decimal n)
  message_text (apply f h l) d = nested d (102 ∷ decimal f) ++ (nested d (40 ∷ []) ++ (list_text l (suc d) ++ nested d (41 ∷ [])))
  message_text (seal l k) d = nested d (123 ∷ 124 ∷ []) ++ (list_text l (suc d) ++ (nested d (124 ∷ 125 ∷ []) ++ message_text k (suc d)))
  message_text (group l) d = nested d (40 ∷ []) ++ (list_text l (suc d) ++ nested d (41 ∷ []))

  -- A list of the nesting d: so are its messages and its commas.
  pub list_text : Messages → ℕ → Text
  list_text (last m) d = message_text m d
  list_text (more m l) d = message_text m d ++ (nested d (44 ∷ []) ++ list_text l d)

-- The word of a line and its space.
abbrev pub word_of : Line → List ℕ
word_of (learn l) = 108 ∷ 101 ∷ 97 ∷ 114 ∷ 110 ∷ 32 ∷ []
word_of (make l) = 109 ∷ 97 ∷ 107 ∷ 101 ∷ 32 ∷ []

-- The list of a line.
abbrev pub list_of : Line → Messages
list_of (learn l) = l
list_of (make l) = l

-- A line: its list is at 0.
abbrev pub line_text : Line → Text
line_text l = nested 0 (word_of l) ++ (list_text (list_of l) 0 ++ nested 0 (10 ∷ []))

-- The bytes of a line.
abbrev pub line_bytes : Line → List ℕ
line_bytes l = bytes_of (line_text l)

-- ---- what it says

unfoldable mutual
  -- Round brackets group and leave no trace.
  pub message_says : Message → Typed
  message_says (atom n h) = name n
  message_says (variable n h) = Typed.variable n
  message_says (apply f h l) = applied f (list_says l)
  message_says (seal l k) = sealed (list_says l) (message_says k)
  message_says (group l) = list_says l

  -- A list is nested to the right: a,b,c pairs a with the pair of b and c.
  pub list_says : Messages → Typed
  list_says (last m) = message_says m
  list_says (more m l) = paired (message_says m) (list_says l)

-- A line says that the intruder learns its list, or must make it.
abbrev pub line_says : Line → Entry
line_says (learn l) = Entry.learn (list_says l)
line_says (make l) = Entry.make (list_says l)

-- ---- the first byte at fault

-- No byte is nested deeper than 16.
abbrev pub Shallow : Text → Type 0
Shallow [] = Unit
Shallow (b ∷ w) = (b.1 ≤ 16) × Shallow w

-- Some line, the bound of 16 aside, begins with these bytes.
abbrev pub Stands : List ℕ → Type 0
Stands front = (l : Line) × (rest : List ℕ) × (line_bytes l ≡ front ++ rest)

-- Some line begins with these bytes, none of them nested deeper than 16, and goes on.
abbrev pub Begun : List ℕ → Type 0
Begun front = (l : Line) × (w : Text) × (next : ℕ × ℕ) × (rest : Text) × (line_text l ≡ w ++ (next ∷ rest)) × (bytes_of w ≡ front) × Shallow w

-- `Fault text n i`: what stands at the front of the text is no line within the bound, and byte i is the first at fault, with the number n.
pub data Fault (text : List ℕ) : ℕ → ℕ → Type 0 where
  -- 11, the text ends early
  early : Begun text → Fault text 11 (length text)
  -- 11, the first byte that no line could have there
  wrong : (front : List ℕ) (b : ℕ) (behind : List ℕ) → text ≡ front ++ (b ∷ behind) → Begun front → (Stands (front ++ (b ∷ [])) → ⊥) → Fault text 11 (length front)
  -- 12, the first byte nested deeper than 16, and a line could have it there
  deep : (l : Line) (w : Text) (b n : ℕ) (rest : Text) (behind : List ℕ) → line_text l ≡ w ++ ((b, n) ∷ rest) → Shallow w → 16 < n → text ≡ bytes_of w ++ (b ∷ behind) →
      Fault text 12 (length w)
