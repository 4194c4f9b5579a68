-- A fault and its number tell each other.
use Rattle.std.proofs.Common.{◌≡◌, ◌≤◌, refl, sym, ap, ◌∙◌, arith}
use Rattle.refusals.specs.declared.Fault.{Fault}
use Rattle.refusals.specs.declared.Fault.TheVariants.{Cut, UnknownMark, LateCell, TooMany, NoSuchCell, LooseVariable, Trailing, Variable, ShortBuffer, BadList, WrongByte, TooDeep}
use Rattle.refusals.specs.Numbers.{number_of, fault_of}

-- The fault of a fault's number is that fault.
pub fault_numbered : (f : Fault) → fault_of (number_of f) ≡ f
fault_numbered Cut = refl
fault_numbered UnknownMark = refl
fault_numbered LateCell = refl
fault_numbered TooMany = refl
fault_numbered NoSuchCell = refl
fault_numbered LooseVariable = refl
fault_numbered Trailing = refl
fault_numbered Variable = refl
fault_numbered ShortBuffer = refl
fault_numbered BadList = refl
fault_numbered WrongByte = refl
fault_numbered TooDeep = refl

-- Faults of one number are one.
pub number_one : (f g : Fault) → number_of f ≡ number_of g → f ≡ g
number_one f g e = sym (fault_numbered f) ∙ ap fault_of e ∙ fault_numbered g

-- Numbers count from 1.
pub number_up : (f : Fault) → 1 ≤ number_of f
number_up Cut = omega arith
number_up UnknownMark = omega arith
number_up LateCell = omega arith
number_up TooMany = omega arith
number_up NoSuchCell = omega arith
number_up LooseVariable = omega arith
number_up Trailing = omega arith
number_up Variable = omega arith
number_up ShortBuffer = omega arith
number_up BadList = omega arith
number_up WrongByte = omega arith
number_up TooDeep = omega arith
