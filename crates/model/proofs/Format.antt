-- Laws of reading a file: what a sound record passed, one step of the reader, and what each step keeps the whole reading keeps.
-- Sound, check_sound, sound_check: the tests; read_cell, read_event, read_end: the step; read_keeps: induction over the records.
use mathlib.Core.Path.{◌≡◌, refl, ◌∙◌, ap, subst}
use mathlib.Core.Bool.{Bool, true, false, cond}
use mathlib.Core.List.{List, [], ◌∷◌, ◌++◌}
use mathlib.Core.Option.{Option, some, none}
use Prim.Native.Nat.{ℕ, zero, suc, ◌+◌, ◌≤◌}
use lib.ListN.{length, drop}
use lib.Dec.{ltb}
use borrow.Author.Tests.{ltb-false, le-ltb}
use Rattle.model.specs.Case.{Cell, Event, File}
use Rattle.model.specs.Format.{Kind, width, kind_of, Record, cell, event, end, record_at, late, too_many, outside, loose}
use Rattle.model.specs.Format.{Checked, fault, sound, check_kind, check, refused, accepted, ended, behind, after, read_from}
use Rattle.model.proofs.Read.{clash}

-- ---- the tests

-- What the fields of the record at the front passed.
pub record Tested (rest : List ℕ) (f : File) (k : Kind) : Type 0 where
  pub early : late f.events k ≡ false
  pub room : too_many f k ≡ false
  pub whole : 2 + width k ≤ length rest
  pub inside : outside f (record_at rest k) ≡ false
  pub tied : loose f (record_at rest k) ≡ false

-- What the record at the front, of kind k, passed.
pub record Sound (rest : List ℕ) (f : File) (k : Kind) : Type 0 where
  pub marked : 2 ≤ length rest
  pub kind : kind_of rest ≡ some k
  pub tested : Tested rest f k

pass : (b : Bool) (n : ℕ) (z : Checked) {k : Kind} → cond b (fault n) z ≡ sound k → (b ≡ false) × (z ≡ sound k)
pass true n z e = clash (cc)
pass false n z e = (refl, e)

passed : (b : Bool) (n : ℕ) (z : Checked) → b ≡ false → cond b (fault n) z ≡ z
passed true n z e = clash (cc)
passed false n z e = refl

check_kind_sound : (rest : List ℕ) (f : File) (o : Option Kind) (k : Kind) → check_kind rest f o ≡ sound k → (o ≡ some k) × Tested rest f k
unfolding check_kind
check_kind_sound rest f none k e = clash (cc)
check_kind_sound rest f (some j) k e =
    let (a, z1) = pass (late f.events j) 3 _ e in
    let (b, z2) = pass (too_many f j) 4 _ z1 in
    let (c, z3) = pass (ltb (length rest) (2 + width j)) 1 _ z2 in
    let (d, z4) = pass (outside f (record_at rest j)) 5 _ z3 in
    let (g, z5) = pass (loose f (record_at rest j)) 6 _ z4 in
    let i : j ≡ k = cc in
    (ap some i, subst (Tested rest f) i (record { early = a; room = b; whole = ltb-false (length rest) (2 + width j) c; inside = d; tied = g }))

-- The tests find the record sound exactly if it passed each of them.
pub check_sound : (rest : List ℕ) (f : File) (k : Kind) → check rest f ≡ sound k → Sound rest f k
unfolding check
check_sound rest f k e =
    let (a, z) = pass (ltb (length rest) 2) 1 _ e in
    let (b, t) = check_kind_sound rest f (kind_of rest) k z in
    record { marked = ltb-false (length rest) 2 a; kind = b; tested = t }

sound_check_kind : (rest : List ℕ) (f : File) (k : Kind) → Tested rest f k → check_kind rest f (some k) ≡ sound k
unfolding check_kind
sound_check_kind rest f k t =
    passed (late f.events k) 3 _ t.early
    ∙ (passed (too_many f k) 4 _ t.room
    ∙ (passed (ltb (length rest) (2 + width k)) 1 _ (le-ltb (length rest) (2 + width k) t.whole)
    ∙ (passed (outside f (record_at rest k)) 5 _ t.inside
    ∙ passed (loose f (record_at rest k)) 6 (sound k) t.tied)))

pub sound_check : (rest : List ℕ) (f : File) (k : Kind) → Sound rest f k → check rest f ≡ sound k
unfolding check
sound_check rest f k s =
    passed (ltb (length rest) 2) 1 _ (le-ltb (length rest) 2 s.marked) ∙ (ap (check_kind rest f) s.kind ∙ sound_check_kind rest f k s.tested)

-- ---- one step

-- The file with the cell or event of one more record.
abbrev pub added : File → Record → File
added f (cell c) = record { cells = f.cells ++ (c ∷ []); events = f.events }
added f (event e) = record { cells = f.cells; events = f.events ++ (e ∷ []) }
added f end = f

-- What the reader does at a sound record: at a cell, at an event and at EN.
module _ (n : ℕ) (rest : List ℕ) (at : ℕ) (f : File) where
  pub read_sound : (k : Kind) → check rest f ≡ sound k → read_from (suc n) rest at f ≡ behind (read_from n) rest at f (2 + width k) (record_at rest k)
  unfolding read_from
  read_sound k e = ap (after (read_from n) rest at f) e

  pub read_cell : (k : Kind) (c : Cell) → check rest f ≡ sound k → record_at rest k ≡ cell c →
      read_from (suc n) rest at f ≡ read_from n (drop (2 + width k) rest) (at + (2 + width k)) (added f (cell c))
  read_cell k c e i = read_sound k e ∙ ap (behind (read_from n) rest at f (2 + width k)) i

  pub read_event : (k : Kind) (v : Event) → check rest f ≡ sound k → record_at rest k ≡ event v →
      read_from (suc n) rest at f ≡ read_from n (drop (2 + width k) rest) (at + (2 + width k)) (added f (event v))
  read_event k v e i = read_sound k e ∙ ap (behind (read_from n) rest at f (2 + width k)) i

  pub read_end : (k : Kind) → check rest f ≡ sound k → record_at rest k ≡ end → read_from (suc n) rest at f ≡ ended rest at f
  read_end k e i = read_sound k e ∙ ap (behind (read_from n) rest at f (2 + width k)) i

ended_accepted : (b : Bool) (at : ℕ) (f g : File) → cond b (refused 7 at) (accepted f) ≡ accepted g → f ≡ g
ended_accepted true at f g e = clash (cc)
ended_accepted false at f g e = cc

-- ---- induction over the records

-- What each sound record keeps, the file that is accepted has.
module _ (P : List ℕ → File → Type 0) (keeps : (rest : List ℕ) (f : File) (k : Kind) → Sound rest f k → P rest f → P (drop (2 + width k) rest) (added f (record_at rest k))) where
  behind_keeps : (n : ℕ) → ((rest : List ℕ) (at : ℕ) (f g : File) → P rest f → read_from n rest at f ≡ accepted g → (r : List ℕ) × P r g) →
      (rest : List ℕ) (at size : ℕ) (f g : File) (r : Record) → P (drop size rest) (added f r) → behind (read_from n) rest at f size r ≡ accepted g → (r : List ℕ) × P r g
  behind_keeps n more rest at size f g (cell c) p e = more (drop size rest) (at + size) (added f (cell c)) g p e
  behind_keeps n more rest at size f g (event v) p e = more (drop size rest) (at + size) (added f (event v)) g p e
  behind_keeps n more rest at size f g end p e = (drop size rest, subst (P (drop size rest)) (ended_accepted (ltb 2 (length rest)) (at + 2) f g e) p)

  pub read_keeps : (n : ℕ) (rest : List ℕ) (at : ℕ) (f g : File) → P rest f → read_from n rest at f ≡ accepted g → (r : List ℕ) × P r g
  unfolding read_from
  read_keeps zero rest at f g p e = clash (cc)
  read_keeps (suc n) rest at f g p e = go (read_keeps n) (check rest f) refl e
    where
      go : ((rest : List ℕ) (at : ℕ) (f g : File) → P rest f → read_from n rest at f ≡ accepted g → (r : List ℕ) × P r g) →
          (x : Checked) → check rest f ≡ x → after (read_from n) rest at f x ≡ accepted g → (r : List ℕ) × P r g
      go more (fault m) i h = clash (cc)
      go more (sound k) i h = behind_keeps n more rest at (2 + width k) f g (record_at rest k) (keeps rest f k (check_sound rest f k i) p) h
