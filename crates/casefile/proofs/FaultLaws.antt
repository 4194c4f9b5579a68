-- The numbers of a reading are those of the faults.
use mathlib.Core.Path.{◌≡◌, refl, subst}
use mathlib.Core.Bool.{Bool, true, false, cond}
use mathlib.Core.List.{List}
use mathlib.Core.Option.{Option, some, none}
use Prim.Native.Nat.{ℕ, zero, suc, ◌+◌}
use lib.Dec.{ltb}
use lib.ListN.{length}
use Rattle.model.specs.Case.{File}
use Rattle.model.specs.Format.{Kind, Record, kind_of, width, record_at, late, too_many, outside, loose, check, check_kind, Checked, Reading, after, behind, read_from, read_file}
use Rattle.refusals.specs.Numbers.{number_of, fault_of}

-- A fault has this number.
abbrev Numbered : ℕ → Type 0
Numbered n = number_of (fault_of n) ≡ n

data Told : Checked → Type 0 where
  fault : (n : ℕ) → Numbered n → Told (Checked.fault n)
  sound : {k : Kind} → Told (Checked.sound k)

abbrev known : Reading → Type 0
known (Reading.refused n p) = Numbered n
known (Reading.accepted f) = Unit

test : (b : Bool) (n : ℕ) {y : Checked} → Numbered n → Told y → Told (cond b (Checked.fault n) y)
test true n h i = fault n h
test false n h i = i

kind_told : (rest : List ℕ) (f : File) (o : Option Kind) → Told (check_kind rest f o)
unfolding check_kind
kind_told rest f none = fault 2 refl
kind_told rest f (some k) =
    test (late f.events k) 3 refl
    (test (too_many f k) 4 refl
    (test (ltb (length rest) (2 + width k)) 1 refl
    (test (outside f (record_at rest k)) 5 refl
    (test (loose f (record_at rest k)) 6 refl
    sound))))

check_told : (rest : List ℕ) (f : File) → Told (check rest f)
unfolding check
check_told rest f = test (ltb (length rest) 2) 1 refl (kind_told rest f (kind_of rest))

-- Behind a record the reading goes on, and is known if what goes on is.
module _ (more : List ℕ → ℕ → File → Reading) (so : (rest : List ℕ) (at : ℕ) (f : File) → known (more rest at f)) (rest : List ℕ) (at : ℕ) (f : File) where
  at_end : (b : Bool) → known (cond b (Reading.refused 7 (at + 2)) (Reading.accepted f))
  at_end true = refl
  at_end false = tt

  recorded : (size : ℕ) (r : Record) → known (behind more rest at f size r)
  recorded size (Record.cell c) = so _ _ _
  recorded size (Record.event e) = so _ _ _
  recorded size Record.end = at_end (ltb 2 (length rest))

  checked : (x : Checked) → Told x → known (after more rest at f x)
  checked (Checked.fault m) (fault _ h) = h
  checked (Checked.sound k) h = recorded _ (record_at rest k)

read_known : (n : ℕ) (rest : List ℕ) (at : ℕ) (f : File) → known (read_from n rest at f)
unfolding read_from
read_known zero rest at f = refl
read_known (suc n) rest at f = checked (read_from n) (read_known n) rest at f (check rest f) (check_told rest f)

file_known : (file : List ℕ) → known (read_file file)
unfolding read_file
file_known file = read_known 257 file 0 _

-- A file is refused with the number of a fault.
pub file_numbered : (file : List ℕ) {n p : ℕ} → read_file file ≡ Reading.refused n p → number_of (fault_of n) ≡ n
file_numbered file e = subst known e (file_known file)
