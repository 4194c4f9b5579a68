-- The reply to the text that was read, and what is written of it.
-- Enters: the reply to a text, with a buffer that is enough; Sends, Answers, Does: what is written.
use Rattle.std.specs.Prelude.{◌≡◌, List, [], ◌∷◌, ℕ, ◌≤◌, ◌<◌, length, Result}
use Rattle.std.specs.Io.KnownBytes.{Keeps, Appends}
use Rattle.std.specs.declared.option.Option.{Option}
use Rattle.model.specs.Format.{file_bytes}
use Rattle.grammar.specs.Filed.{file_of}
use Rattle.grammar.specs.Text.{Outcome, refused, said, Told, TextReply}
use Rattle.refusals.specs.declared.Refusal.{Refusal}
use Rattle.typing.specs.Reply.{Refused, Written}
use Rattle.enter.specs.Refusal.{line_of, column_of, refusal_line}

-- ---- the reply

-- The reply to a text, the file written lies within the buffer, and no file is too long for it.
pub record Enters (text before : List ℕ) (r : Result ℕ Refusal) (after : List ℕ) : Type 0 where
  pub reply : TextReply Refused Written text before r after
  pub inside : (n : ℕ) → r ≡ Written n → n ≤ length after
  pub enough : (n : ℕ) → r ≡ Refused 9 n → ⊥

-- ---- what is written

-- An outcome is sent: the file of the entries to the output, the line of a refusal to the errors. Nothing else is written.
abbrev pub Sends : List ℕ → Outcome → Option (List ℕ) → Option (List ℕ) → Option (List ℕ) → Option (List ℕ) → Type 0
Sends text (said es) output output' errors errors' = Appends output output' (file_bytes (file_of es)) × Keeps errors errors'
Sends text (refused n p) output output' errors errors' = Keeps output output' × Appends errors errors' (refusal_line n p (line_of text p) (column_of text p))

-- The text's outcome is sent.
abbrev pub Answers : List ℕ → Option (List ℕ) → Option (List ℕ) → Option (List ℕ) → Option (List ℕ) → Type 0
Answers text output output' errors errors' = (o : Outcome) × Told [] 0 text o × Sends text o output output' errors errors'

-- enter: the input is longer than 65536 bytes
abbrev pub too_long : List ℕ
too_long = 101 ∷ 110 ∷ 116 ∷ 101 ∷ 114 ∷ 58 ∷ 32 ∷ 116 ∷ 104 ∷ 101 ∷ 32 ∷ 105 ∷ 110 ∷ 112 ∷ 117 ∷ 116 ∷ 32 ∷ 105 ∷ 115 ∷ 32 ∷ 108 ∷ 111 ∷ 110 ∷ 103 ∷ 101 ∷ 114 ∷ 32 ∷ 116 ∷ 104 ∷ 97 ∷ 110 ∷ 32 ∷ 54 ∷ 53 ∷ 53 ∷ 51 ∷ 54 ∷ 32 ∷ 98 ∷ 121 ∷ 116 ∷ 101 ∷ 115 ∷ 10 ∷ []

-- An input of at most 65,536 bytes is answered; of a longer one it is told that it is too long.
pub record Does (input : List ℕ) (output output' errors errors' : Option (List ℕ)) : Type 0 where
  pub answered : length input ≤ 65536 → Answers input output output' errors errors'
  pub longer : 65536 < length input → Keeps output output' × Appends errors errors' too_long
