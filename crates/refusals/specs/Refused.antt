-- The replies that refuse, by number and place.
use Rattle.std.specs.Prelude.{ℕ, Result, Err}
use Rattle.refusals.specs.declared.Refusal.{Refusal}
use Rattle.refusals.specs.Numbers.{fault_of}

-- The refusal with a number and a place.
abbrev pub refusal : ℕ → ℕ → Refusal
refusal number place = record { fault = fault_of number; place = place }

-- The reply that refuses so.
abbrev pub Refused : {A : Type 0} → ℕ → ℕ → Result A Refusal
Refused number place = Err (refusal number place)
