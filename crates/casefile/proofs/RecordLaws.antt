-- Marks and records: the kind found first in the list of kinds, and what a record of each kind says.
use mathlib.Core.Path.{◌≡◌, refl, sym, ◌∙◌, ap, ap₂, subst}
use mathlib.Core.Bool.{Bool, true, false, cond}
use mathlib.Core.List.{List, [], ◌∷◌}
use mathlib.Core.Option.{Option, some, none}
use Prim.Native.Nat.{ℕ, ◌+◌, ◌-◌, ◌≤◌, ◌<◌}
use native.Mathlib.Omega.{arith}
use native.Mathlib.Nat.{add-zero}
use borrow.Author.Tests.{lt-ltb, le-ltb, ltb-true, ltb-false}
use lib.Dec.{ltb}
use lib.ListN.{length, get_or, drop, length-drop}
use lib.Seq.{get_or-drop}
use Rattle.std.specs.Prelude.{Result, Ok, Err}
use Rattle.model.specs.Case as case
use Rattle.model.specs.Format.{Kind, kind_among, kinds, kind_of, is_cell, is_event, width, record_of, Record, cell_bytes, check, Checked}
use Rattle.model.proofs.Accepted.{Bytes}
use Rattle.model.proofs.Pick.{yes, no}
use Rattle.model.proofs.Rows.{Fits}
use Rattle.refusals.specs.declared.Fault.{Fault}
use Rattle.refusals.specs.declared.Fault.TheVariants as fault
use Rattle.refusals.specs.Numbers.{number_of}
use Rattle.casefile.specs.declared.record.Kind.{Kind as Tag}
use Rattle.casefile.specs.declared.record.Record.{Record as Rec}
use Rattle.casefile.specs.declared.record.Front.{Front}
use Rattle.casefile.specs.declared.record.Front.TheVariants as front
use Rattle.casefile.specs.Record.{kind_for, as_mark, mark_at, record_says, short_as, short_of, Marked, Stands, front_says}
use Rattle.casefile.proofs.TestLaws.{test_mark, test_unknown}

-- ---- marks

module _ (s : List ℕ) (at : ℕ) where
  -- The rest from `at` on, byte by byte.
  rest_at : (i : ℕ) → get_or (drop at s) i 0 ≡ get_or s (at + i) 0
  rest_at i = get_or-drop at s i 0

  rest_first : get_or (drop at s) 0 0 ≡ get_or s at 0
  rest_first = rest_at 0 ∙ ap (λ i. get_or s i 0) (add-zero at)

  rest_length : length (drop at s) ≡ length s - at
  rest_length = length-drop at s

  pub rest_bytes : Bytes s → Bytes (drop at s)
  rest_bytes b i = subst (λ x. x < 256) (sym (rest_at i)) (b (at + i))

  pub mark_cut : length s < at + 2 → Err fault.Cut ≡ mark_at (drop at s)
  unfolding mark_at
  mark_cut h = yes _ (lt-ltb (length (drop at s)) 2 (omega (arith, rest_length)))

  pub mark_whole : at + 2 ≤ length s → {r : Result Tag Fault} → r ≡ as_mark (kind_among (get_or s at 0 ∷ get_or s (at + 1) 0 ∷ []) kinds) → r ≡ mark_at (drop at s)
  unfolding mark_at kind_of
  mark_whole h e = no _ (le-ltb (length (drop at s)) 2 (omega (arith, rest_length))) (e ∙ ap₂ (λ a b. as_mark (kind_among (a ∷ b ∷ []) kinds)) (sym rest_first) (sym (rest_at 1)))

-- What a mark found tells of the rest of the file.
data Means (rest : List ℕ) : Result Tag Fault → Type 0 where
  faulty : {x : Fault} → ((f : case.File) → check rest f ≡ Checked.fault (number_of x)) → Means rest (Err x)
  known : {k : Tag} → Marked rest (kind_for k) → Means rest (Ok k)

means : (rest : List ℕ) → Means rest (mark_at rest)
unfolding mark_at
means rest = short (ltb (length rest) 2) refl
  where
    kinds : (o : Option Kind) → 2 ≤ length rest → kind_of rest ≡ o → Means rest (as_mark o)
    kinds none h e = faulty (λ f. test_unknown rest f (h, e))
    kinds (some Kind.Atom) h e = known (record { found = e; whole = h })
    kinds (some Kind.Variable) h e = known (record { found = e; whole = h })
    kinds (some Kind.Pair) h e = known (record { found = e; whole = h })
    kinds (some Kind.Seal) h e = known (record { found = e; whole = h })
    kinds (some Kind.Apply) h e = known (record { found = e; whole = h })
    kinds (some Kind.Make) h e = known (record { found = e; whole = h })
    kinds (some Kind.Learn) h e = known (record { found = e; whole = h })
    kinds (some Kind.End) h e = known (record { found = e; whole = h })

    short : (b : Bool) → ltb (length rest) 2 ≡ b → Means rest (cond b (Err fault.Cut) (as_mark (kind_of rest)))
    short true e = faulty (λ f. test_mark rest f (ltb-true _ _ e))
    short false e = kinds (kind_of rest) (ltb-false _ _ e) refl

-- The mark that the reader found at the front, by what it is.
module _ (rest : List ℕ) where
  pub front_known : {k : Tag} → Ok k ≡ mark_at rest → Marked rest (kind_for k)
  front_known {k} e = go (subst (Means rest) (sym e) (means rest))
    where
      go : Means rest (Ok k) → Marked rest (kind_for k)
      go (known g) = g

  pub front_fault : {x : Fault} → Err x ≡ mark_at rest → (f : case.File) → check rest f ≡ Checked.fault (number_of x)
  front_fault {x} e = go (subst (Means rest) (sym e) (means rest))
    where
      go : Means rest (Err x) → (f : case.File) → check rest f ≡ Checked.fault (number_of x)
      go (faulty g) = g

-- ---- the fields behind a mark

module _ (s : List ℕ) (at : ℕ) (k : Tag) (g : Marked (drop at s) (kind_for k)) where
  pub mark_room : at + 2 ≤ length s
  mark_room = let w = g.whole in omega (arith, length-drop at s)

  pub fields_short : {r : Front} → length s - (at + 2) < width (kind_for k) → r ≡ short_of k → front_says (drop at s) (Ok r)
  fields_short h e = subst (λ r. front_says (drop at s) (Ok r)) (sym e) (go (is_cell (kind_for k)) refl)
    where
      go : (b : Bool) → is_cell (kind_for k) ≡ b → front_says (drop at s) (Ok (short_as b))
      go true i = record { tag = kind_for k; marked = g; is = i; short = (let r = mark_room in omega (arith, length-drop at s)) }
      go false i = record { tag = kind_for k; marked = g; is = i; short = (let r = mark_room in omega (arith, length-drop at s)) }

  pub fields_whole : {r : Record} {a b : ℕ} → width (kind_for k) ≤ length s - (at + 2) → a ≡ get_or s (at + 2) 0 → b ≡ get_or s (at + 2 + 1) 0 → r ≡ record_of (kind_for k) a b → Stands (drop at s) r
  fields_whole h ea eb e = record {
    tag = kind_for k;
    marked = g;
    whole = (let r = mark_room in omega (arith, length-drop at s));
    says = ap₂ (record_of (kind_for k)) (rest_at s at 2 ∙ sym ea) (rest_at s at 3 ∙ (ap (λ i. get_or s i 0) three ∙ sym eb)) ∙ sym e;
  }
    where
      three : at + 3 ≡ at + 2 + 1
      three = omega arith

-- The record that the reader found at the front.
pub fronted : (rest : List ℕ) {x : Front} {r s : Rec} → front_says rest (Ok x) → x ≡ front.Whole r → r ≡ s → Stands rest (record_says s)
fronted rest f e i = subst (λ x. front_says rest (Ok x)) (e ∙ ap front.Whole i) f

-- ---- what a record of each kind says

abbrev of_cell : Record → Bool
of_cell (Record.cell c) = true
of_cell (Record.event e) = false
of_cell Record.end = false

abbrev of_event : Record → Bool
of_event (Record.cell c) = false
of_event (Record.event e) = true
of_event Record.end = false

abbrev size_of : Record → ℕ
size_of (Record.cell c) = length (cell_bytes c)
size_of (Record.event e) = 3
size_of Record.end = 2

abbrev fitting : Record → Type 0
fitting (Record.cell c) = Fits c
fitting (Record.event e) = Unit
fitting Record.end = Unit

-- Its sort and its size,
sorted : (k : Kind) (a b : ℕ) → (is_cell k ≡ of_cell (record_of k a b)) × (is_event k ≡ of_event (record_of k a b)) × (2 + width k ≡ size_of (record_of k a b))
sorted Kind.Atom a b = (refl, refl, refl)
sorted Kind.Variable a b = (refl, refl, refl)
sorted Kind.Pair a b = (refl, refl, refl)
sorted Kind.Seal a b = (refl, refl, refl)
sorted Kind.Apply a b = (refl, refl, refl)
sorted Kind.Make a b = (refl, refl, refl)
sorted Kind.Learn a b = (refl, refl, refl)
sorted Kind.End a b = (refl, refl, refl)

-- and the bytes of its cell.
bytes_fit : (k : Kind) (a b : ℕ) → a < 256 → b < 256 → fitting (record_of k a b)
bytes_fit Kind.Atom a b ha hb = (omega arith, omega arith)
bytes_fit Kind.Variable a b ha hb = (omega arith, omega arith)
bytes_fit Kind.Pair a b ha hb = (ha, hb)
bytes_fit Kind.Seal a b ha hb = (ha, hb)
bytes_fit Kind.Apply a b ha hb = (ha, hb)
bytes_fit Kind.Make a b ha hb = tt
bytes_fit Kind.Learn a b ha hb = tt
bytes_fit Kind.End a b ha hb = tt

module _ {rest : List ℕ} {r : Record} (w : Stands rest r) where
  pub stands_cell : is_cell w.tag ≡ of_cell r
  stands_cell = (sorted w.tag (get_or rest 2 0) (get_or rest 3 0)).0 ∙ ap of_cell w.says

  pub stands_event : is_event w.tag ≡ of_event r
  stands_event = (sorted w.tag (get_or rest 2 0) (get_or rest 3 0)).1 ∙ ap of_event w.says

  pub stands_size : 2 + width w.tag ≡ size_of r
  stands_size = (sorted w.tag (get_or rest 2 0) (get_or rest 3 0)).2 ∙ ap size_of w.says

  pub stands_fits : Bytes rest → fitting r
  stands_fits b = subst fitting w.says (bytes_fit w.tag (get_or rest 2 0) (get_or rest 3 0) (b 2) (b 3))
