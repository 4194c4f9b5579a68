-- The event records: what the tests of a record find, as facts of plain values.
use mathlib.Core.Path.{◌≡◌, refl, sym, ◌∙◌, ap, subst}
use mathlib.Core.Bool.{Bool, true, false, cond}
use mathlib.Core.List.{List, [], ◌∷◌}
use Prim.Native.Nat.{ℕ, ◌≤◌, ◌<◌}
use native.Mathlib.Omega.{arith}
use borrow.Author.Tests.{leb-true, leb-false}
use lib.Dec.{leb}
use lib.ListN.{length}
use Rattle.std.specs.Prelude.{Result, Ok, Err}
use Rattle.model.specs.Case as case
use Rattle.model.specs.Stored.{aim}
use Rattle.model.specs.Format.{Kind, is_cell, is_event, width, record_at, Record, any_of, numbers, late, too_many, outside, loose, check, Checked}
use Rattle.model.proofs.Pick.{into, no}
use Rattle.model.proofs.Read.{clash}
use Rattle.cells.specs.Cells.{as_event}
use Rattle.cells.specs.declared.Event.{Event}
use Rattle.refusals.specs.declared.Fault.{Fault}
use Rattle.refusals.specs.declared.Fault.TheVariants as fault
use Rattle.refusals.specs.Numbers.{number_of}
use Rattle.cells.specs.declared.Cell.{Cell}
use Rattle.casefile.specs.declared.record.Record.{Record as Rec}
use Rattle.casefile.specs.declared.record.Record.TheVariants as rec
use Rattle.casefile.specs.declared.record.Front.{Front}
use Rattle.casefile.specs.declared.record.Front.TheVariants as front
use Rattle.casefile.specs.Record.{Marked, Stands, Short, front_says}
use Rattle.casefile.specs.Events.{Among, Found, Ended, event_step}
use Rattle.casefile.proofs.RecordLaws.{fronted, stands_cell, stands_event, stands_size}
use Rattle.casefile.proofs.TestLaws.{short_number, test_late, test_full, test_short, test_outside, test_inside}

-- A cell record after an event is late; before the first event no cell record stands.
late_true : (es : List case.Event) (k : Kind) → is_cell k ≡ true → (es ≡ [] → ⊥) → late es k ≡ true
late_true [] k e ne = absurd (ne refl)
late_true (x ∷ es) k e ne = e

late_false : (es : List case.Event) (k : Kind) → is_cell k ≡ false → late es k ≡ false
late_false [] k e = refl
late_false (x ∷ es) k e = e

-- Only an event can be short of its fields, if it is no cell.
short_event : (k : Kind) → is_cell k ≡ false → 0 < width k → is_event k ≡ true
short_event Kind.Atom e h = clash (cc)
short_event Kind.Variable e h = clash (cc)
short_event Kind.Pair e h = clash (cc)
short_event Kind.Seal e h = clash (cc)
short_event Kind.Apply e h = clash (cc)
short_event Kind.Make e h = refl
short_event Kind.Learn e h = refl
short_event Kind.End e h = absurd (omega arith)

-- A record of no cell is early, and of an event the count is tested.
module _ (f : case.File) (k : Kind) (is : is_cell k ≡ false) where
  early : late f.events k ≡ false
  early = late_false f.events k is

  many : (n : ℕ) → length f.events ≡ n → is_event k ≡ true → too_many f k ≡ leb 128 n
  many n e event = sym (no _ is (into _ event (ap (leb 128) (sym e))))

  none : is_event k ≡ false → too_many f k ≡ leb 128 0
  none event = sym (no _ is (no _ event refl))

aim_number : (v : case.Event) → aim v ∷ [] ≡ numbers (Record.event v)
aim_number (case.MK c) = refl
aim_number (case.LN c) = refl

last : (t : Bool) → cond t true false ≡ t
last true = refl
last false = refl

module _ (rest : List ℕ) (count n : ℕ) where
  late_cell : (k : Kind) → Marked rest k → is_cell k ≡ true → (f : case.File) → Among rest f count n → check rest f ≡ Checked.fault 3
  late_cell k g is f a = test_late rest f k g (late_true f.events k is (λ z.
      let b = a.begun z in
      let i : k ≡ b.tag = cc (g.found, b.marked.found) in
      clash (cc (is, b.event, ap is_cell i))))

  pub whole_late : {x : Front} {r : Rec} {k : Cell} → front_says rest (Ok x) → x ≡ front.Whole r → r ≡ rec.Cell k → (f : case.File) → Among rest f count n → check rest f ≡ Checked.fault 3
  whole_late {x} {r} {k} s e i = let w = fronted rest s e i in late_cell w.tag w.marked (stands_cell w)

  pub short_late : {x : Front} → front_says rest (Ok x) → x ≡ front.ShortCell → (f : case.File) → Among rest f count n → check rest f ≡ Checked.fault 3
  short_late s e = let w = rw e at s in late_cell w.tag w.marked w.is

  pub says_short : {x : Fault} → Short rest false → x ≡ cond (leb 128 n) fault.TooMany fault.Cut → (f : case.File) → Among rest f count n → check rest f ≡ Checked.fault (number_of x)
  says_short w e f a =
      let s = w.short in
      let h = w.marked.whole in
      test_short rest f w.tag w.marked n (early f w.tag w.is) (many f w.tag w.is n a.events (short_event w.tag w.is (omega arith))) w.short ∙ ap Checked.fault (short_number n e)

  pub says_end : Stands rest Record.end → Ended rest count n
  unfolding any_of
  says_end w = record {
    tag = w.tag;
    says = w.says;
    whole = w.marked.whole;
    sound = λ f a. test_inside rest f w.tag w.marked 0 (early f w.tag (stands_cell w)) (none f w.tag (stands_cell w) (stands_event w)) (omega arith) w.whole (ap (outside f) w.says)
        ∙ ap (λ r. cond (loose f r) (Checked.fault 6) (Checked.sound w.tag)) w.says;
  }

  -- A whole record of the event v.
  module _ {v : case.Event} (w : Stands rest (Record.event v)) where
    outside_is : (f : case.File) → Among rest f count n → {t : Bool} → leb count (aim v) ≡ t → outside f (record_at rest w.tag) ≡ t
    unfolding any_of
    outside_is f a e = ap (outside f) w.says ∙ (ap (any_of (leb (length f.cells))) (sym (aim_number v)) ∙ (ap (λ x. any_of (leb x) (aim v ∷ [])) a.cells ∙ (last (leb count (aim v)) ∙ e)))

    says_many : 128 ≤ n → (f : case.File) → Among rest f count n → check rest f ≡ Checked.fault 4
    says_many full f a = test_full rest f w.tag w.marked n (early f w.tag (stands_cell w)) (many f w.tag (stands_cell w) n a.events (stands_event w)) full

    module _ (room : n < 128) where
      says_outside : leb count (aim v) ≡ true → (f : case.File) → Among rest f count n → check rest f ≡ Checked.fault 5
      says_outside out f a = test_outside rest f w.tag w.marked n (early f w.tag (stands_cell w)) (many f w.tag (stands_cell w) n a.events (stands_event w)) room w.whole (outside_is f a out)

      says_found : leb count (aim v) ≡ false → Found rest count n v
      says_found inn = record {
        tag = w.tag;
        says = w.says;
        size = stands_size w;
        whole = (let s = stands_size w in let h = w.whole in omega arith);
        room = room;
        below = leb-false count (aim v) inn;
        tested = λ f a. test_inside rest f w.tag w.marked n (early f w.tag (stands_cell w)) (many f w.tag (stands_cell w) n a.events (stands_event w)) room w.whole (outside_is f a inn)
            ∙ ap (λ r. cond (loose f r) (Checked.fault 6) (Checked.sound w.tag)) w.says;
      }

-- What the step at a whole record says.
abbrev pub step_says : List ℕ → ℕ → ℕ → Result Event Fault → Type 0
step_says rest count n (Ok e) = Found rest count n (as_event e)
step_says rest count n (Err x) = (f : case.File) → Among rest f count n → check rest f ≡ Checked.fault (number_of x)

pub says_event : {rest : List ℕ} (count n : ℕ) (e : Event) {r : Result Event Fault} → Stands rest (Record.event (as_event e)) → r ≡ event_step e count n → step_says rest count n r
says_event {rest} count n e w i = subst (step_says rest count n) (sym i) (go (leb 128 n) (leb count (aim (as_event e))) refl refl)
  where
    go : (x y : Bool) → leb 128 n ≡ x → leb count (aim (as_event e)) ≡ y → step_says rest count n (cond x (Err fault.TooMany) (cond y (Err fault.NoSuchCell) (Ok e)))
    go true y i j = says_many rest count n w (leb-true 128 n i)
    go false true i j = says_outside rest count n w (leb-false 128 n i) j
    go false false i j = says_found rest count n w (leb-false 128 n i) j
