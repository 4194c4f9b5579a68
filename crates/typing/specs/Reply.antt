-- The replies, as the promise names them.
use Rattle.std.specs.Prelude.{ℕ, Result, Ok}
use Rattle.refusals.specs.declared.Refusal.{Refusal}
use Rattle.refusals.specs.Refused as refusals

abbrev pub Refused : ℕ → ℕ → Result ℕ Refusal
Refused n p = refusals.Refused n p

abbrev pub Written : ℕ → Result ℕ Refusal
Written n = Ok n
