-- What is replied to a text: refusals line by line from the front.
-- Outcome, Told: what a text is refused with, or the entries it says; TextReply: the promise, on bytes in and out.
use Rattle.std.specs.Prelude.{◌≡◌, true, false, List, [], ◌∷◌, ◌++◌, ℕ, ◌+◌, ◌≤◌, ◌<◌, length}
use Rattle.model.specs.Format.{file_bytes}
use Rattle.model.specs.Replies.{laid}
use Rattle.grammar.specs.Typed.{Entry}
use Rattle.grammar.specs.Grammar.{Line, line_text, line_bytes, line_says, Shallow, Fault}
use Rattle.grammar.specs.Filed.{file_of, TooMany, is_loose}

-- A text is refused with a number and a place, or says entries.
pub data Outcome : Type 0 where
  refused : ℕ → ℕ → Outcome
  said : List Entry → Outcome

-- At the front of the text stands the line, within the bound of 16; behind it the rest.
pub record Front (text : List ℕ) (l : Line) (rest : List ℕ) : Type 0 where
  pub bytes : text ≡ line_bytes l ++ rest
  pub shallow : Shallow (line_text l)

-- `Told es at text o`: behind lines that say es and take `at` bytes, the rest of the text has the outcome o.
pub data Told : List Entry → ℕ → List ℕ → Outcome → Type 0 where
  -- no line is left
  finished : {es : List Entry} {at : ℕ} → Told es at [] (said es)
  -- 11 or 12 at the first byte at fault
  faulty : {es : List Entry} {at b : ℕ} {text : List ℕ} (n i : ℕ) → Fault (b ∷ text) n i → Told es at (b ∷ text) (refused n (at + i))
  -- 4 at the line's first byte
  many : {es : List Entry} {at : ℕ} {text : List ℕ} (l : Line) (rest : List ℕ) → Front text l rest → TooMany (es ++ (line_says l ∷ [])) → Told es at text (refused 4 at)
  -- 6 at the line's first byte
  loose : {es : List Entry} {at : ℕ} {text : List ℕ} (l : Line) (rest : List ℕ) → Front text l rest → (TooMany (es ++ (line_says l ∷ [])) → ⊥) → is_loose es (line_says l) ≡ true →
      Told es at text (refused 6 at)
  -- the line is taken
  line : {es : List Entry} {at : ℕ} {text : List ℕ} {o : Outcome} (l : Line) (rest : List ℕ) → Front text l rest → (TooMany (es ++ (line_says l ∷ [])) → ⊥) →
      is_loose es (line_says l) ≡ false → Told (es ++ (line_says l ∷ [])) (at + length (line_bytes l)) rest o → Told es at text o

module _ {R : Type 0} (Refused : ℕ → ℕ → R) (Written : ℕ → R) where
  -- The reply to an outcome, and the buffer with it. After the last line 9, if the file is longer than the buffer; the place is its length.
  pub data Replied (before : List ℕ) : Outcome → R → List ℕ → Type 0 where
    refusal : (number place : ℕ) → Replied before (refused number place) (Refused number place) before
    short : (es : List Entry) → length before < length (file_bytes (file_of es)) → Replied before (said es) (Refused 9 (length (file_bytes (file_of es)))) before
    written : (es : List Entry) → length (file_bytes (file_of es)) ≤ length before →
        Replied before (said es) (Written (length (file_bytes (file_of es)))) (laid (file_bytes (file_of es)) before)

  -- The promise: the text has an outcome, and the reply is the one to it.
  pub record TextReply (text before : List ℕ) (reply : R) (after : List ℕ) : Type 0 where
    pub outcome : Outcome
    pub told : Told [] 0 text outcome
    pub replied : Replied before outcome reply after
