-- The numbers by which refusals are told.
-- number_of: the number of a fault; faults, fault_of: the fault of a number.
use Rattle.std.specs.Prelude.{List, [], ◌∷◌, ℕ, ◌-◌, get_or}
use Rattle.refusals.specs.declared.Fault.{Fault}
use Rattle.refusals.specs.declared.Fault.TheVariants.{Cut, UnknownMark, LateCell, TooMany, NoSuchCell, LooseVariable, Trailing, Variable, ShortBuffer, BadList, WrongByte, TooDeep}

-- The number of a fault.
abbrev pub number_of : Fault → ℕ
number_of Cut = 1
number_of UnknownMark = 2
number_of LateCell = 3
number_of TooMany = 4
number_of NoSuchCell = 5
number_of LooseVariable = 6
number_of Trailing = 7
number_of Variable = 8
number_of ShortBuffer = 9
number_of BadList = 10
number_of WrongByte = 11
number_of TooDeep = 12

-- The faults in the order of their numbers, from 1 on.
abbrev pub faults : List Fault
faults = Cut ∷ UnknownMark ∷ LateCell ∷ TooMany ∷ NoSuchCell ∷ LooseVariable ∷ Trailing ∷ Variable ∷ ShortBuffer ∷ BadList ∷ WrongByte ∷ TooDeep ∷ []

-- The fault that has a number, 1 to 12.
abbrev pub fault_of : ℕ → Fault
fault_of n = get_or faults (n - 1) Cut
