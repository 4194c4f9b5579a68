-- The number of a file's refusal is 1 to 7, and its place is within the file, so at most 899.
use mathlib.Core.Path.{◌≡◌, refl, sym, ◌∙◌}
use mathlib.Core.Bool.{Bool, true, false, cond}
use mathlib.Core.List.{List}
use mathlib.Core.Option.{Option, some, none}
use Prim.Native.Nat.{ℕ, zero, suc, ◌+◌, ◌≤◌}
use native.Mathlib.Omega.{arith}
use borrow.Author.Tests.{ltb-true}
use lib.Dec.{ltb}
use lib.ListN.{length, take, drop, length-drop, length-take}
use Rattle.model.specs.Case.{File}
use Rattle.model.specs.Format.{Kind, width, Record, cell, event, end, record_at, late, too_many, outside, loose}
use Rattle.model.specs.Format.{Checked, fault, sound, check_kind, kind_of, check, Reading, refused, accepted, behind, after, read_from, read_file}
use Rattle.model.proofs.Format.{check_sound, added}
use Rattle.model.proofs.Prefix.{read_file_prefix}
use Rattle.model.proofs.Read.{clash}

-- The number of a fault.
abbrev Numbered : Checked → Type 0
Numbered (fault n) = (1 ≤ n) × (n ≤ 7)
Numbered (sound k) = Unit

pick : (b : Bool) (n : ℕ) (z : Checked) → 1 ≤ n → n ≤ 7 → Numbered z → Numbered (cond b (fault n) z)
pick true n z h h' i = (h, h')
pick false n z h h' i = i

kind_numbered : (rest : List ℕ) (f : File) (o : Option Kind) → Numbered (check_kind rest f o)
unfolding check_kind
kind_numbered rest f none = (omega arith, omega arith)
kind_numbered rest f (some k) =
    pick (late f.events k) 3 _ (omega arith) (omega arith)
    (pick (too_many f k) 4 _ (omega arith) (omega arith)
    (pick (ltb (length rest) (2 + width k)) 1 _ (omega arith) (omega arith)
    (pick (outside f (record_at rest k)) 5 _ (omega arith) (omega arith)
    (pick (loose f (record_at rest k)) 6 (sound k) (omega arith) (omega arith) tt))))

check_numbered : (rest : List ℕ) (f : File) → Numbered (check rest f)
unfolding check
check_numbered rest f = pick (ltb (length rest) 2) 1 _ (omega arith) (omega arith) (kind_numbered rest f (kind_of rest))

-- What a refusal says, of a rest that begins at `at`.
abbrev Placed : List ℕ → ℕ → Reading → Type 0
Placed rest at (refused n p) = (1 ≤ n) × (n ≤ 7) × (p ≤ at + length rest)
Placed rest at (accepted f) = Unit

further : (rest : List ℕ) (at size : ℕ) (r : Reading) → size ≤ length rest → Placed (drop size rest) (at + size) r → Placed rest at r
further rest at size (refused n p) h (a, b, c) = (a, b, omega (arith, length-drop size rest))
further rest at size (accepted f) h i = tt

at_end : (rest : List ℕ) (at : ℕ) (f : File) (b : Bool) → ltb 2 (length rest) ≡ b → Placed rest at (cond b (refused 7 (at + 2)) (accepted f))
at_end rest at f true e = (let l = ltb-true 2 (length rest) e in (omega arith, omega arith, omega arith))
at_end rest at f false e = tt

-- One record, if the reading of what follows is placed.
module _ (n : ℕ) (rest : List ℕ) (at : ℕ) (f : File) (more : (s : List ℕ) (i : ℕ) (g : File) → Placed s i (read_from n s i g)) where
  next : (g : File) (size : ℕ) → size ≤ length rest → Placed rest at (read_from n (drop size rest) (at + size) g)
  next g size w = further rest at size (read_from n (drop size rest) (at + size) g) w (more (drop size rest) (at + size) g)

  on : (k : Kind) → 2 + width k ≤ length rest → (r : Record) → Placed rest at (behind (read_from n) rest at f (2 + width k) r)
  on k w (cell c) = next (added f (cell c)) (2 + width k) w
  on k w (event e) = next (added f (event e)) (2 + width k) w
  on k w end = at_end rest at f (ltb 2 (length rest)) refl

  one_record : (c : Checked) → check rest f ≡ c → Numbered c → Placed rest at (after (read_from n) rest at f c)
  one_record (fault x) e (a, b) = (a, b, omega arith)
  one_record (sound k) e i = on k (check_sound rest f k e).tested.whole (record_at rest k)

placed : (n : ℕ) (rest : List ℕ) (at : ℕ) (f : File) → Placed rest at (read_from n rest at f)
unfolding read_from
placed zero rest at f = (omega arith, omega arith, omega arith)
placed (suc n) rest at f = one_record n rest at f (λ s i g. placed n s i g) (check rest f) refl (check_numbered rest f)

whole : (t : List ℕ) → Placed t 0 (read_file t)
unfolding read_file
whole t = placed 257 t 0 _

-- The number and the place of a refusal.
pub refused_place : (s : List ℕ) (n p : ℕ) → read_file s ≡ refused n p → (1 ≤ n) × (n ≤ 7) × (p ≤ 899)
refused_place s n p e = bounded (read_file (take 899 s)) (whole (take 899 s)) (sym (read_file_prefix s) ∙ e)
  where
    bounded : (r : Reading) → Placed (take 899 s) 0 r → r ≡ refused n p → (1 ≤ n) × (n ≤ 7) × (p ≤ 899)
    bounded (refused x y) (a, b, c) i =
        let l = length-take 899 s in
        let ex : x ≡ n = cc in
        let ey : y ≡ p = cc in
        (omega arith, omega arith, omega arith)
    bounded (accepted f) h i = clash (cc)
