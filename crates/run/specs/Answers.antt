-- The reply to an input of which the first bytes were read.
-- Begins: what was read of an input; Answers: the reply to each input that begins so.
use Rattle.std.specs.Prelude.{◌≡◌, List, ℕ, ◌≤◌, length, take}
use Rattle.printing.specs.Promise.{ReplyPromise}

-- The first n bytes of the buffer are all of the input, or, where the input is longer than the buffer, as much of it as the buffer holds.
abbrev pub Begins : List ℕ → ℕ → List ℕ → Type 0
Begins start n input = take n start ≡ take (length start) input

-- The reply in the buffer is the one to each input that begins so.
pub record Answers (start : List ℕ) (n : ℕ) (before : List ℕ) (r : ℕ) (after : List ℕ) : Type 0 where
  pub reply : (input : List ℕ) → Begins start n input → ReplyPromise input before r after
  pub inside : r ≤ length after
