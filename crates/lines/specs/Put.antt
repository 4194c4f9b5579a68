-- Text put into a buffer behind what stands there.
-- Put: the text stands from `at` on, and r is where it ends; told: a text with a number.
use Rattle.std.specs.Prelude.{◌≡◌, List, ◌++◌, ℕ, ◌+◌, ◌≤◌, length}
use Rattle.std.proofs.lemmas.List.Edits.{sets}
use Rattle.grammar.specs.Grammar.{decimal}

-- The text stands in the buffer from `at` on, all else is as before, and r is the position behind it, in the buffer or at its end.
pub record Put (text before : List ℕ) (at : ℕ) (after : List ℕ) (r : ℕ) : Type 0 where
  pub bytes : after ≡ sets before at text
  pub end : r ≡ at + length text
  pub room : r ≤ length before

-- A text with a number behind it.
abbrev pub told : List ℕ → ℕ → List ℕ
told text n = text ++ decimal n
