-- The reply depends on the first 899 bytes of a file only: 128 cells of four bytes, 128 events of three, EN, and whether a byte follows.
use mathlib.Core.Path.{◌≡◌, refl, sym, ◌∙◌, ap, subst}
use mathlib.Core.Logic.{◌⊎◌, inl, inr}
use mathlib.Core.Bool.{Bool, true, false, cond}
use mathlib.Core.List.{List, [], ◌∷◌}
use mathlib.Core.Option.{Option, some, none}
use Prim.Native.Nat.{ℕ, zero, suc, ◌+◌, ◌-◌, ◌*◌, ◌≤◌, ◌<◌}
use native.Mathlib.Nat.{sub-zero, zero-sub, suc-sub-suc}
use native.Mathlib.Omega.{arith}
use lib.ListN.{length, take, drop, length-take}
use lib.Seq.{take-nil, get_or-take}
use lib.Dec.{ltb, leb}
use borrow.Author.Tests.{ltb-true, ltb-false, lt-ltb, le-ltb, leb-false}
use Rattle.model.specs.Case.{Cell, Event, File}
use Rattle.model.specs.Format.{Kind, Atom, Variable, Pair, Seal, Apply, Make, Learn, End, width, kinds, kind_among, kind_of, Record, cell, event, end, record_at, late, too_many}
use Rattle.model.specs.Format.{Checked, fault, sound, check_kind, check, refused, accepted, behind, after, read_from, read_file}
use Rattle.model.proofs.Read.{clash}
use Rattle.model.proofs.Listed.{bool?, length_snoc}
use Rattle.model.proofs.Format.{Sound, check_sound, added}
use Rattle.model.proofs.Accepted.{blank}
use Rattle.model.proofs.Fuel.{Few, few_added}

-- ---- the front of a list

drop_take : (n m : ℕ) (l : List ℕ) → drop n (take m l) ≡ take (m - n) (drop n l)
drop_take zero m l = rw (sub-zero m)
drop_take (suc n) zero l = rw (zero-sub (suc n))
drop_take (suc n) (suc m) [] = sym (take-nil (suc m - suc n))
drop_take (suc n) (suc m) (x ∷ l) = rw (suc-sub-suc m n) (drop_take n m l)

ltb_same : (a b c d : ℕ) → (a < b → c < d) → (c < d → a < b) → ltb a b ≡ ltb c d
ltb_same a b c d to from = elim (bool? (ltb a b)) [
  | inl e ↦ e ∙ sym (lt-ltb c d (to (ltb-true a b e)))
  | inr e ↦ e ∙ sym (le-ltb c d (past (bool? (ltb c d)) e))
]
  where
    past : (ltb c d ≡ true) ⊎ (ltb c d ≡ false) → ltb a b ≡ false → d ≤ c
    past (inl h) e = let i = from (ltb-true c d h) in let j = ltb-false a b e in absurd (omega arith)
    past (inr h) e = ltb-false c d h

module _ (m : ℕ) (l : List ℕ) where
  short_take : (j : ℕ) → j ≤ m → ltb (length (take m l)) j ≡ ltb (length l) j
  short_take j h = let z = length-take m l in ltb_same (length (take m l)) j (length l) j (λ i. omega arith) (λ i. omega arith)

  long_take : (j : ℕ) → j < m → ltb j (length (take m l)) ≡ ltb j (length l)
  long_take j h = let z = length-take m l in ltb_same j (length (take m l)) j (length l) (λ i. omega arith) (λ i. omega arith)

  among_take : 2 ≤ m → (ks : List Kind) → kind_among (take m l) ks ≡ kind_among l ks
  among_take h [] = refl
  among_take h (k ∷ ks) = rw (get_or-take m l 0 0 (omega arith), get_or-take m l 1 0 (omega arith), among_take h ks)

  kind_take : 2 ≤ m → kind_of (take m l) ≡ kind_of l
  unfolding kind_of
  kind_take h = among_take h kinds

  record_take : 4 ≤ m → (k : Kind) → record_at (take m l) k ≡ record_at l k
  record_take h k = rw (get_or-take m l 2 0 (omega arith), get_or-take m l 3 0 (omega arith))

-- ---- enough bytes for what may still come

-- m bytes are enough behind the records of f.
abbrev Enough : ℕ → File → Type 0
Enough m f = 899 ≤ m + (4 * length f.cells + 3 * length f.events)

width_few : (k : Kind) → width k ≤ 2
width_few Atom = omega arith
width_few Variable = omega arith
width_few Pair = omega arith
width_few Seal = omega arith
width_few Apply = omega arith
width_few Make = omega arith
width_few Learn = omega arith
width_few End = omega arith

-- Where another record may stand there are four bytes; EN needs no more than its mark.
room_enough : (m : ℕ) (f : File) (k : Kind) → Few f → Enough m f → too_many f k ≡ false → (k ≡ End) ⊎ (4 ≤ m)
room_enough m f k few en room = go k room
  where
    by_cells : leb 128 (length f.cells) ≡ false → 4 ≤ m
    by_cells e = omega (arith, few.events, leb-false 128 (length f.cells) e)

    by_events : leb 128 (length f.events) ≡ false → 4 ≤ m
    by_events e = omega (arith, few.cells, leb-false 128 (length f.events) e)

    go : (k : Kind) → too_many f k ≡ false → (k ≡ End) ⊎ (4 ≤ m)
    go Atom e = inr (by_cells e)
    go Variable e = inr (by_cells e)
    go Pair e = inr (by_cells e)
    go Seal e = inr (by_cells e)
    go Apply e = inr (by_cells e)
    go Make e = inr (by_events e)
    go Learn e = inr (by_events e)
    go End e = inl refl

enough_cell : (m w : ℕ) (f : File) (c : Cell) → w ≤ 2 → Enough m f → Enough (m - (2 + w)) (added f (cell c))
enough_cell m w f c h en = let z = length_snoc f.cells c in omega arith

enough_event : (m : ℕ) (f : File) (e : Event) → Enough m f → Enough (m - 3) (added f (event e))
enough_event m f e en = let z = length_snoc f.events e in omega arith

enough_added : (m : ℕ) (rest : List ℕ) (f : File) (k : Kind) → Enough m f → (record_at rest k ≡ end → ⊥) → Enough (m - (2 + width k)) (added f (record_at rest k))
enough_added m rest f Atom en n = enough_cell m 2 f _ (omega arith) en
enough_added m rest f Variable en n = enough_cell m 0 f _ (omega arith) en
enough_added m rest f Pair en n = enough_cell m 2 f _ (omega arith) en
enough_added m rest f Seal en n = enough_cell m 2 f _ (omega arith) en
enough_added m rest f Apply en n = enough_cell m 2 f _ (omega arith) en
enough_added m rest f Make en n = enough_event m f _ en
enough_added m rest f Learn en n = enough_event m f _ en
enough_added m rest f End en n = absurd (n refl)

-- ---- the tests and the steps on the front

full_same : (a b : Bool) (z z' : Checked) → b ≡ true → cond a (fault 3) (cond b (fault 4) z) ≡ cond a (fault 3) (cond b (fault 4) z')
full_same true b z z' e = refl
full_same false true z z' e = refl
full_same false false z z' e = clash (cc)

module _ (m : ℕ) (rest : List ℕ) (f : File) where
  fields_take : (k : Kind) → 2 + width k ≤ m → record_at (take m rest) k ≡ record_at rest k → check_kind (take m rest) f (some k) ≡ check_kind rest f (some k)
  unfolding check_kind
  fields_take k h e = rw (short_take m rest (2 + width k) h, e)

  check_kind_take : Few f → Enough m f → (o : Option Kind) → check_kind (take m rest) f o ≡ check_kind rest f o
  unfolding check_kind
  check_kind_take few en none = refl
  check_kind_take few en (some k) = elim (bool? (too_many f k)) [
    | inl full ↦ full_same (late f.events k) (too_many f k) _ _ full
    | inr room ↦ elim (room_enough m f k few en room) [
      | inl e ↦ subst (λ j. check_kind (take m rest) f (some j) ≡ check_kind rest f (some j)) (sym e) (fields_take End (omega (arith, few.cells, few.events)) refl)
      | inr h ↦ fields_take k (omega (arith, width_few k)) (record_take m rest h k)
    ]
  ]

  check_take : Few f → Enough m f → check (take m rest) f ≡ check rest f
  unfolding check
  check_take few en =
      let h : 3 ≤ m = omega (arith, few.cells, few.events) in
      rw (short_take m rest 2 (omega arith), kind_take m rest (omega arith), check_kind_take few en (kind_of rest))

  sound_take : (k : Kind) → Few f → Enough m f → Sound rest f k → record_at (take m rest) k ≡ record_at rest k
  sound_take k few en s = elim (room_enough m f k few en s.tested.room) [
    | inl e ↦ subst (λ j. record_at (take m rest) j ≡ record_at rest j) (sym e) refl
    | inr h ↦ record_take m rest h k
  ]

behind_take : (n : ℕ) → ((m : ℕ) (rest : List ℕ) (at : ℕ) (f : File) → Few f → Enough m f → read_from n (take m rest) at f ≡ read_from n rest at f) →
    (m : ℕ) (rest : List ℕ) (at size : ℕ) (f : File) (r : Record) → 3 ≤ m → Few (added f r) → ((r ≡ end → ⊥) → Enough (m - size) (added f r)) →
    behind (read_from n) (take m rest) at f size r ≡ behind (read_from n) rest at f size r
behind_take n more m rest at size f (cell c) h few en =
    ap (λ s. read_from n s (at + size) (added f (cell c))) (drop_take size m rest) ∙ more (m - size) (drop size rest) (at + size) (added f (cell c)) few (en (λ e. clash (cc)))
behind_take n more m rest at size f (event v) h few en =
    ap (λ s. read_from n s (at + size) (added f (event v))) (drop_take size m rest) ∙ more (m - size) (drop size rest) (at + size) (added f (event v)) few (en (λ e. clash (cc)))
behind_take n more m rest at size f end h few en = ap (λ b. cond b (refused 7 (at + 2)) (accepted f)) (long_take m rest 2 (omega arith))

read_take : (n m : ℕ) (rest : List ℕ) (at : ℕ) (f : File) → Few f → Enough m f → read_from n (take m rest) at f ≡ read_from n rest at f
unfolding read_from
read_take zero m rest at f few en = refl
read_take (suc n) m rest at f few en = ap (after (read_from n) (take m rest) at f) (check_take m rest f few en) ∙ go (read_take n) (check rest f) refl
  where
    go : ((m : ℕ) (rest : List ℕ) (at : ℕ) (f : File) → Few f → Enough m f → read_from n (take m rest) at f ≡ read_from n rest at f) →
        (x : Checked) → check rest f ≡ x → after (read_from n) (take m rest) at f x ≡ after (read_from n) rest at f x
    go more (fault j) e = refl
    go more (sound k) e =
        let s = check_sound rest f k e in
        ap (behind (read_from n) (take m rest) at f (2 + width k)) (sound_take m rest f k few en s)
        ∙ behind_take n more m rest at (2 + width k) f (record_at rest k) (omega (arith, few.cells, few.events)) (few_added rest f k s few) (enough_added m rest f k en)

-- As many bytes as that, or more, are read as the whole file is.
pub read_file_take : (m : ℕ) (s : List ℕ) → 899 ≤ m → read_file (take m s) ≡ read_file s
unfolding read_file
read_file_take m s h = read_take 257 m s 0 blank (record { cells = omega arith; events = omega arith }) (omega arith)

pub read_file_prefix : (s : List ℕ) → read_file s ≡ read_file (take 899 s)
read_file_prefix s = sym (read_file_take 899 s (omega arith))
