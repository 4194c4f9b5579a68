-- 257 records are enough: more steps give the same reply, so the reader never runs out of them.
use mathlib.Core.Path.{◌≡◌, refl}
use mathlib.Core.Bool.{false}
use mathlib.Core.List.{List}
use Prim.Native.Nat.{ℕ, zero, suc, ◌+◌, ◌≤◌}
use native.Mathlib.Omega.{arith}
use lib.ListN.{length, drop}
use lib.Dec.{leb}
use borrow.Author.Tests.{leb-false}
use Rattle.model.specs.Case.{Cell, Event, File}
use Rattle.model.specs.Format.{Kind, Atom, Variable, Pair, Seal, Apply, Make, Learn, End, width, Record, cell, event, end, record_at}
use Rattle.model.specs.Format.{Checked, fault, sound, check, Reading, behind, after, read_from, read_file}
use Rattle.model.proofs.Read.{clash}
use Rattle.model.proofs.Listed.{length_snoc}
use Rattle.model.proofs.Format.{Sound, check_sound, added}
use Rattle.model.proofs.Accepted.{blank}

-- At most 128 cells and at most 128 events.
pub record Few (f : File) : Type 0 where
  pub cells : length f.cells ≤ 128
  pub events : length f.events ≤ 128

few_cell : (f : File) (c : Cell) → Few f → leb 128 (length f.cells) ≡ false → Few (added f (cell c))
few_cell f c few room = let h = leb-false 128 (length f.cells) room in record { cells = (let z = length_snoc f.cells c in omega arith); events = few.events }

few_event : (f : File) (e : Event) → Few f → leb 128 (length f.events) ≡ false → Few (added f (event e))
few_event f e few room = let h = leb-false 128 (length f.events) room in record { cells = few.cells; events = (let z = length_snoc f.events e in omega arith) }

pub few_added : (rest : List ℕ) (f : File) (k : Kind) → Sound rest f k → Few f → Few (added f (record_at rest k))
few_added rest f Atom s few = few_cell f _ few s.tested.room
few_added rest f Variable s few = few_cell f _ few s.tested.room
few_added rest f Pair s few = few_cell f _ few s.tested.room
few_added rest f Seal s few = few_cell f _ few s.tested.room
few_added rest f Apply s few = few_cell f _ few s.tested.room
few_added rest f Make s few = few_event f _ few s.tested.room
few_added rest f Learn s few = few_event f _ few s.tested.room
few_added rest f End s few = few

-- A record that is not EN adds one cell or one event.
pub count_added : (f : File) (r : Record) → (r ≡ end → ⊥) → length (added f r).cells + length (added f r).events ≡ length f.cells + length f.events + 1
count_added f (cell c) n = let z = length_snoc f.cells c in omega arith
count_added f (event e) n = let z = length_snoc f.events e in omega arith
count_added f end n = absurd (n refl)

-- Two ways to read on that agree on the file with one more record give the same reply.
module _ (more more' : List ℕ → ℕ → File → Reading) (rest : List ℕ) (at : ℕ) (f : File) where
  behind_same : (size : ℕ) (r : Record) → ((s : List ℕ) (i : ℕ) → (r ≡ end → ⊥) → more s i (added f r) ≡ more' s i (added f r)) → behind more rest at f size r ≡ behind more' rest at f size r
  behind_same size (cell c) same = same (drop size rest) (at + size) (λ e. clash (cc))
  behind_same size (event v) same = same (drop size rest) (at + size) (λ e. clash (cc))
  behind_same size end same = refl

  pub after_same : ((k : Kind) → Sound rest f k → (record_at rest k ≡ end → ⊥) → (s : List ℕ) (i : ℕ) → more s i (added f (record_at rest k)) ≡ more' s i (added f (record_at rest k))) →
      (x : Checked) → check rest f ≡ x → after more rest at f x ≡ after more' rest at f x
  after_same same (fault m) e = refl
  after_same same (sound k) e = behind_same (2 + width k) (record_at rest k) (λ s i n. same k (check_sound rest f k e) n s i)

pub fuel_enough : (n m : ℕ) (rest : List ℕ) (at : ℕ) (f : File) → Few f → 257 ≤ n + length f.cells + length f.events → 257 ≤ m + length f.cells + length f.events →
    read_from n rest at f ≡ read_from m rest at f
unfolding read_from
fuel_enough zero m rest at f few h h' = absurd (omega (arith, few.cells, few.events))
fuel_enough (suc n) zero rest at f few h h' = absurd (omega (arith, few.cells, few.events))
fuel_enough (suc n) (suc m) rest at f few h h' =
    after_same (read_from n) (read_from m) rest at f
    (λ k s ne r i. let z = count_added f (record_at rest k) ne in fuel_enough n m r i (added f (record_at rest k)) (few_added rest f k s few) (omega arith) (omega arith))
    (check rest f) refl

-- A step of the reader, without its count of records.
pub read_step : (rest : List ℕ) (at : ℕ) (f : File) → Few f → read_from 257 rest at f ≡ after (read_from 257) rest at f (check rest f)
unfolding read_from
read_step rest at f few =
    after_same (read_from 256) (read_from 257) rest at f
    (λ k s ne r i. let z = count_added f (record_at rest k) ne in fuel_enough 256 257 r i (added f (record_at rest k)) (few_added rest f k s few) (omega arith) (omega arith))
    (check rest f) refl

-- Reading with more steps is the same reading.
pub read_more : (n : ℕ) (s : List ℕ) → 257 ≤ n → read_file s ≡ read_from n s 0 blank
unfolding read_file
read_more n s h = fuel_enough 257 n s 0 blank (record { cells = omega arith; events = omega arith }) (omega arith) (omega arith)
