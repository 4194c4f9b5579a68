-- What an accepted file keeps.
-- Accepted, accepted_file: few cells and events, parts lower, events' cells among the cells, no loose LN; Small, small_file: names and functions that fit their bytes.
use mathlib.Core.Path.{◌≡◌, refl, sym, ◌∙◌, ap, subst}
use mathlib.Core.Logic.{◌⊎◌, inl, inr}
use mathlib.Core.Bool.{true, false}
use mathlib.Core.List.{List, [], ◌∷◌, ◌++◌, Memᴰ}
use mathlib.Core.Option.{some}
use Prim.Native.Nat.{ℕ, ◌+◌, ◌*◌, ◌≤◌, ◌<◌}
use native.Mathlib.Omega.{arith}
use lib.ListN.{length, get_or, get_elem?, drop}
use lib.Seq.{get_or-drop}
use lib.Dec.{leb}
use borrow.Author.Tests.{leb-false}
use Rattle.model.specs.Case.{Cell, AT, AP, Event, MK, LN, File, table_of, run_of, Part, in_arg, in_left, in_right, Lower, WellFormed}
use Rattle.model.specs.Format.{Kind, Atom, Variable, Pair, Seal, Apply, Make, Learn, End, width, is_cell, Record, cell, event, record_at, numbers, late, outside, loose, accepted, read_file}
use Rattle.model.specs.Stored.{aim}
use Rattle.model.proofs.Read.{clash}
use Rattle.model.proofs.Listed.{length_snoc, get_d_snoc, elem_snoc, elem_append, any_none}
use Rattle.model.proofs.Held.{unheld_false, held_by_run}
use Rattle.model.proofs.Format.{Sound, added, read_keeps}

-- What an accepted file keeps.
pub record Accepted (f : File) : Type 0 where
  pub few_cells : length f.cells ≤ 128
  pub few_events : length f.events ≤ 128
  pub lower : Lower (table_of f.cells)
  pub inside : (p : ℕ) (e : Event) → run_of f.events p ≡ some e → aim e < length f.cells
  pub formed : WellFormed (table_of f.cells) (run_of f.events)

-- The file of no records.
abbrev pub blank : File
blank = record { cells = []; events = [] }

pub accepted_blank : Accepted blank
accepted_blank = record {
  few_cells = omega arith;
  few_events = omega arith;
  lower = λ c d p. elim p [ ];
  inside = λ p e i. clash (cc);
  formed = λ p c v i t w. clash (cc);
}

-- ---- one more cell, one more event

pub lower_snoc : (cells : List Cell) (c : Cell) → Lower (table_of cells) → ((d : ℕ) → Part c d → d < length cells) → Lower (table_of (cells ++ (c ∷ [])))
lower_snoc cells c low parts i d p = elim (get_d_snoc cells c (AT 0) i) [
  | inl (e, h) ↦ (let l = parts d (subst (λ k. Part k d) h p) in omega arith)
  | inr h ↦ low i d (subst (λ k. Part k d) h p)
]

no_event : (events : List Event) (p : ℕ) (e : Event) → events ≡ [] → run_of events p ≡ some e → ⊥
no_event events p e i h = let z = ap (λ (l : List Event). get_elem? l p) i in clash (cc)

pub accepted_cell : (f : File) (c : Cell) → Accepted f → f.events ≡ [] → length f.cells < 128 → ((d : ℕ) → Part c d → d < length f.cells) → Accepted (added f (cell c))
accepted_cell f c a none room parts = record {
  few_cells = (let z = length_snoc f.cells c in omega arith);
  few_events = a.few_events;
  lower = lower_snoc f.cells c a.lower parts;
  inside = λ p e i. absurd (no_event f.events p e none i);
  formed = λ p d v i t w. absurd (no_event f.events p (LN d) none i);
}

-- The new event is the last, and no variable of its message is loose if it is an LN.
formed_snoc : (f : File) (e : Event) → Accepted f → loose f (event e) ≡ false → WellFormed (table_of f.cells) (run_of (f.events ++ (e ∷ [])))
formed_snoc f e a tied p c v i t w = elim (elem_snoc f.events e p) [
  | inr h ↦ (let (q, m, l, j, u) = a.formed p c v (sym h ∙ i) t w in (q, m, l, elem_append f.events (e ∷ []) q (MK m) j, u))
  | inl (h, j) ↦
      (let k : e ≡ LN c = cc in
      let held = (unheld_false (table_of f.cells) a.lower f.events c).0 (subst (λ x. loose f (event x) ≡ false) k tied) v t w in
      let (q, m, l, y, u) = (held_by_run (table_of f.cells) f.events v).0 held in
      (q, m, omega arith, elem_append f.events (e ∷ []) q (MK m) y, u))
]

pub accepted_event : (f : File) (e : Event) → Accepted f → length f.events < 128 → aim e < length f.cells → loose f (event e) ≡ false → Accepted (added f (event e))
accepted_event f e a room below tied = record {
  few_cells = a.few_cells;
  few_events = (let z = length_snoc f.events e in omega arith);
  lower = a.lower;
  inside = λ p x i. inside p x i (elem_snoc f.events e p);
  formed = formed_snoc f e a tied;
}
  where
    inside : (p : ℕ) (x : Event) → run_of (f.events ++ (e ∷ [])) p ≡ some x → ((p ≡ length f.events) × (run_of (f.events ++ (e ∷ [])) p ≡ some e)) ⊎
        (run_of (f.events ++ (e ∷ [])) p ≡ run_of f.events p) → aim x < length f.cells
    inside p x i (inl (h, j)) = let k : e ≡ x = cc in subst (λ y. aim y < length f.cells) k below
    inside p x i (inr h) = a.inside p x (sym h ∙ i)

-- ---- one more record

late_none : (events : List Event) (k : Kind) → is_cell k ≡ true → late events k ≡ false → events ≡ []
late_none [] k c l = refl
late_none (e ∷ es) k c l = clash (cc)

part_number : {c : Cell} {d : ℕ} → Part c d → Memᴰ d (numbers (cell c))
part_number in_arg = Memᴰ.head refl
part_number in_left = Memᴰ.head refl
part_number in_right = Memᴰ.tail (Memᴰ.head refl)

aim_number : (e : Event) → Memᴰ (aim e) (numbers (event e))
aim_number (MK c) = Memᴰ.head refl
aim_number (LN c) = Memᴰ.head refl

number_inside : (f : File) (r : Record) (d : ℕ) → outside f r ≡ false → Memᴰ d (numbers r) → d < length f.cells
number_inside f r d e m = leb-false (length f.cells) d (any_none (leb (length f.cells)) (numbers r) e d m)

-- A cell record of kind k adds its cell, an event record its event.
keeps_cell : (f : File) (k : Kind) (c : Cell) → is_cell k ≡ true → late f.events k ≡ false → leb 128 (length f.cells) ≡ false → outside f (cell c) ≡ false →
    Accepted f → Accepted (added f (cell c))
keeps_cell f k c is early room inside a =
    accepted_cell f c a (late_none f.events k is early) (leb-false 128 (length f.cells) room) (λ d p. number_inside f (cell c) d inside (part_number p))

keeps_event : (f : File) (e : Event) → leb 128 (length f.events) ≡ false → outside f (event e) ≡ false → loose f (event e) ≡ false → Accepted f → Accepted (added f (event e))
keeps_event f e room inside tied a =
    accepted_event f e a (leb-false 128 (length f.events) room) (number_inside f (event e) (aim e) inside (aim_number e)) tied

pub accepted_added : (rest : List ℕ) (f : File) (k : Kind) → Sound rest f k → Accepted f → Accepted (added f (record_at rest k))
accepted_added rest f Atom s a = keeps_cell f Atom _ refl s.tested.early s.tested.room s.tested.inside a
accepted_added rest f Variable s a = keeps_cell f Variable _ refl s.tested.early s.tested.room s.tested.inside a
accepted_added rest f Pair s a = keeps_cell f Pair _ refl s.tested.early s.tested.room s.tested.inside a
accepted_added rest f Seal s a = keeps_cell f Seal _ refl s.tested.early s.tested.room s.tested.inside a
accepted_added rest f Apply s a = keeps_cell f Apply _ refl s.tested.early s.tested.room s.tested.inside a
accepted_added rest f Make s a = keeps_event f _ s.tested.room s.tested.inside s.tested.tied a
accepted_added rest f Learn s a = keeps_event f _ s.tested.room s.tested.inside s.tested.tied a
accepted_added rest f End s a = a

-- A file that is read as f: f keeps all of it.
pub accepted_file : (s : List ℕ) (f : File) → read_file s ≡ accepted f → Accepted f
unfolding read_file
accepted_file s f e = (read_keeps (λ rest g. Accepted g) accepted_added 257 s 0 blank f accepted_blank e).1

-- ---- names and functions

-- Each element is a byte.
abbrev pub Bytes : List ℕ → Type 0
Bytes s = (i : ℕ) → get_or s i 0 < 256

-- Names fit two bytes and functions one.
pub record Small (cells : List Cell) : Type 0 where
  pub names : (c n : ℕ) → table_of cells c ≡ AT n → n < 65536
  pub functions : (c g a : ℕ) → table_of cells c ≡ AP g a → g < 256

small_snoc : (cells : List Cell) (k : Cell) → Small cells → ((n : ℕ) → k ≡ AT n → n < 65536) → ((g a : ℕ) → k ≡ AP g a → g < 256) → Small (cells ++ (k ∷ []))
small_snoc cells k s name function = record {
  names = λ c n e. elim (get_d_snoc cells k (AT 0) c) [ inl (i, h) ↦ name n (sym h ∙ e) | inr h ↦ s.names c n (sym h ∙ e) ];
  functions = λ c g a e. elim (get_d_snoc cells k (AT 0) c) [ inl (i, h) ↦ function g a (sym h ∙ e) | inr h ↦ s.functions c g a (sym h ∙ e) ];
}

small_added : (f : File) (k : Kind) (rest : List ℕ) → Bytes rest → Small f.cells → Small (added f (record_at rest k)).cells
small_added f Atom rest b s = small_snoc f.cells _ s (λ n e. let z : get_or rest 2 0 * 256 + get_or rest 3 0 ≡ n = cc in omega (arith, b 2, b 3)) (λ g a e. clash (cc))
small_added f Variable rest b s = small_snoc f.cells _ s (λ n e. clash (cc)) (λ g a e. clash (cc))
small_added f Pair rest b s = small_snoc f.cells _ s (λ n e. clash (cc)) (λ g a e. clash (cc))
small_added f Seal rest b s = small_snoc f.cells _ s (λ n e. clash (cc)) (λ g a e. clash (cc))
small_added f Apply rest b s = small_snoc f.cells _ s (λ n e. clash (cc)) (λ g a e. let z : get_or rest 2 0 ≡ g = cc in omega (arith, b 2))
small_added f Make rest b s = s
small_added f Learn rest b s = s
small_added f End rest b s = s

pub small_file : (s : List ℕ) (f : File) → Bytes s → read_file s ≡ accepted f → Small f.cells
unfolding read_file
small_file s f b e = (read_keeps (λ rest g. Bytes rest × Small g.cells) keeps 257 s 0 blank f (b, none) e).1.1
  where
    none : Small []
    none = record { names = λ c n i. (let z : 0 ≡ n = cc in omega arith); functions = λ c g a i. clash (cc) }

    keeps : (rest : List ℕ) (g : File) (k : Kind) → Sound rest g k → Bytes rest × Small g.cells → Bytes (drop (2 + width k) rest) × Small (added g (record_at rest k)).cells
    keeps rest g k s (bytes, small) = (λ i. subst (λ x. x < 256) (sym (get_or-drop (2 + width k) rest i 0)) (bytes (2 + width k + i)), small_added g k rest bytes small)
