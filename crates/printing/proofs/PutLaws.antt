-- Text behind text in a buffer, and numbers of at most three digits.
use mathlib.Core.Path.{◌≡◌, refl, ◌∙◌}
use mathlib.Core.List.{List, []}
use Prim.Native.Nat.{ℕ, ◌+◌, ◌<◌, ◌≤◌}
use native.Mathlib.Omega.{arith}
use lib.ListN.{length, length-append}
use Rattle.model.specs.Replies.{laid}
use Rattle.model.proofs.Listed.{sets_front}
use Rattle.grammar.specs.Grammar.{decimal}
use Rattle.lines.specs.Put.{Put, told}
use Rattle.lines.proofs.PutLaws.{three_digits}

pub put_none : (before : List ℕ) (at : ℕ) → at ≤ length before → Put [] before at before at
put_none before at h = record { bytes = refl; end = omega arith; room = h }

-- Text from the front lies in the buffer.
pub put_laid : {text before after : List ℕ} {r : ℕ} → Put text before 0 after r → after ≡ laid text before
put_laid {text} {before} p = let i = p.end in let h = p.room in p.bytes ∙ sets_front text before (omega arith)

-- A number below 1,000 has at most three digits.
pub told_short : (text : List ℕ) (n : ℕ) → n < 1000 → length (told text n) ≤ length text + 3
told_short text n h = omega (arith, length-append text (decimal n), three_digits n h)
