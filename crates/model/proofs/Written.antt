-- The bytes of a file that keeps what an accepted file keeps are read as that file.
use mathlib.Core.Path.{◌≡◌, refl, sym, ◌∙◌, ap, subst}
use mathlib.Core.Logic.{inl, inr}
use mathlib.Core.Bool.{false}
use mathlib.Core.List.Memᴰ
use mathlib.Core.List.{List, [], ◌∷◌, ◌++◌, append_assoc, append-nil, Memᴰ}
use mathlib.Core.Option.{some}
use Prim.Native.Nat.{ℕ, zero, suc, ◌+◌, ◌≤◌, ◌<◌}
use native.Mathlib.Nat.{suc-add, zero-add, div-add-mod'}
use native.Mathlib.Omega.{arith}
use lib.ListN.{length, get_elem?, drop, length-append}
use lib.Seq.{append_snoc, get_or-append_seam}
use lib.Dec.{leb}
use borrow.Author.Tests.{lt-leb}
use Rattle.model.specs.Message.{App, Two}
use Rattle.model.specs.Case.{Cell, AT, VA, ONE, TWO, PR, SE, AP, Event, MK, LN, File, table_of, run_of, Part, in_arg, in_left, in_right, Within, Lower, WellFormed}
use Rattle.model.specs.Format.{Kind, Atom, Variable, Pair, Seal, Apply, Make, Learn, End}
use Rattle.model.specs.Format.{mark, width, kind_of, Record, cell, event, end, record_at, any_of, numbers, late, too_many, outside, loose, accepted, read_from, read_file}
use Rattle.model.specs.Format.{cell_bytes, event_bytes, joined, file_bytes}
use Rattle.model.specs.Stored.{aim}
use Rattle.model.proofs.Listed.{none_any, place_member}
use Rattle.model.proofs.Held.{HeldBy, unheld_false}
use Rattle.model.proofs.Format.{Sound, sound_check, added, read_cell, read_event, read_end}
use Rattle.model.proofs.Accepted.{Accepted}
use Rattle.model.proofs.Fuel.{read_more}

-- ---- one record

-- At the front stands a sound record that says r, and behind it the bytes of tail.
record Front (bytes : List ℕ) (f : File) (r : Record) (tail : List ℕ) : Type 0 where
  pub kind : Kind
  pub sound : Sound bytes f kind
  pub says : record_at bytes kind ≡ r
  pub leaves : drop (2 + width kind) bytes ≡ tail

-- The numbers that a cell names are its parts.
number_part : (c : Cell) (d : ℕ) → Memᴰ d (numbers (cell c)) → Part c d
number_part (AT n) d m = absurd (Memᴰ.not-nil m)
number_part VA d m = absurd (Memᴰ.not-nil m)
number_part (ONE g a) d m = subst (Part (ONE g a)) (sym (Memᴰ.eq_of_singleton m)) in_arg
number_part (TWO h l r) d m = elim (Memᴰ.cases_cons m) [
  | inl e ↦ subst (Part (TWO h l r)) (sym e) in_left
  | inr n ↦ subst (Part (TWO h l r)) (sym (Memᴰ.eq_of_singleton n)) in_right
]

-- The file whose records so far are cells.
abbrev only_cells : List Cell → File
only_cells cells = record { cells = cells; events = [] }

parts_inside : (done : List Cell) (c : Cell) → ((d : ℕ) → Part c d → d < length done) → outside (only_cells done) (cell c) ≡ false
parts_inside done c parts = none_any (leb (length done)) (numbers (cell c)) (λ d m. lt-leb (length done) d (parts d (number_part c d m)))

-- A record that passes each test, whatever its kind.
front : (bytes : List ℕ) (f : File) (k : Kind) (r : Record) → kind_of bytes ≡ some k → late f.events k ≡ false → too_many f k ≡ false → 2 + width k ≤ length bytes →
    record_at bytes k ≡ r → outside f r ≡ false → loose f r ≡ false → Front bytes f r (drop (2 + width k) bytes)
front bytes f k r kind early room whole says inside tied = record {
  kind = k;
  sound = record { marked = omega arith; kind = kind; tested = record { early = early; room = room; whole = whole; inside = rw says inside; tied = rw says tied } };
  says = says;
  leaves = refl;
}

front_cell : (done : List Cell) (c : Cell) (tail : List ℕ) → length done < 128 → ((d : ℕ) → Part c d → d < length done) → Front (cell_bytes c ++ tail) (only_cells done) (cell c) tail
unfolding kind_of
front_cell done (AT n) tail room parts =
    front (cell_bytes (AT n) ++ tail) (only_cells done) Atom (cell (AT n)) refl refl (lt-leb 128 (length done) room) (omega arith)
    (ap (λ n. cell (AT n)) (div-add-mod' n 256)) (parts_inside done (AT n) parts) refl
front_cell done VA tail room parts =
    front (cell_bytes VA ++ tail) (only_cells done) Variable (cell VA) refl refl (lt-leb 128 (length done) room) (omega arith) refl (parts_inside done VA parts) refl
front_cell done (ONE (App f) a) tail room parts =
    front (cell_bytes (AP f a) ++ tail) (only_cells done) Apply (cell (AP f a)) refl refl (lt-leb 128 (length done) room) (omega arith) refl (parts_inside done (AP f a) parts) refl
front_cell done (TWO Two.Pair l r) tail room parts =
    front (cell_bytes (PR l r) ++ tail) (only_cells done) Pair (cell (PR l r)) refl refl (lt-leb 128 (length done) room) (omega arith) refl (parts_inside done (PR l r) parts) refl
front_cell done (TWO Two.Seal b k) tail room parts =
    front (cell_bytes (SE b k) ++ tail) (only_cells done) Seal (cell (SE b k)) refl refl (lt-leb 128 (length done) room) (omega arith) refl (parts_inside done (SE b k) parts) refl

early_event : (events : List Event) → (late events Make ≡ false) × (late events Learn ≡ false) × (late events End ≡ false)
early_event [] = (refl, refl, refl)
early_event (e ∷ es) = (refl, refl, refl)

aim_inside : (f : File) (e : Event) → aim e < length f.cells → outside f (event e) ≡ false
aim_inside f (MK c) h = none_any (leb (length f.cells)) (c ∷ []) (λ d m. lt-leb (length f.cells) d (subst (λ x. x < length f.cells) (sym (Memᴰ.eq_of_singleton m)) h))
aim_inside f (LN c) h = none_any (leb (length f.cells)) (c ∷ []) (λ d m. lt-leb (length f.cells) d (subst (λ x. x < length f.cells) (sym (Memᴰ.eq_of_singleton m)) h))

front_event : (f : File) (e : Event) (tail : List ℕ) → length f.events < 128 → aim e < length f.cells → loose f (event e) ≡ false → Front (event_bytes e ++ tail) f (event e) tail
unfolding kind_of
front_event f (MK c) tail room below tied =
    front (event_bytes (MK c) ++ tail) f Make (event (MK c)) refl (early_event f.events).0 (lt-leb 128 (length f.events) room) (omega arith) refl (aim_inside f (MK c) below) tied
front_event f (LN c) tail room below tied =
    front (event_bytes (LN c) ++ tail) f Learn (event (LN c)) refl (early_event f.events).1 (lt-leb 128 (length f.events) room) (omega arith) refl (aim_inside f (LN c) below) tied

front_end : (f : File) → Front (mark End) f end []
unfolding kind_of any_of
front_end f = front (mark End) f End end refl (early_event f.events).2 refl (omega arith) refl refl refl

read_front_cell : (n : ℕ) (bytes : List ℕ) (at : ℕ) (f : File) (c : Cell) (tail : List ℕ) (g : File) → Front bytes f (cell c) tail →
    ((at : ℕ) → read_from n tail at (added f (cell c)) ≡ accepted g) → read_from (suc n) bytes at f ≡ accepted g
read_front_cell n bytes at f c tail g r more =
    read_cell n bytes at f r.kind c (sound_check bytes f r.kind r.sound) r.says
    ∙ (ap (λ s. read_from n s (at + (2 + width r.kind)) (added f (cell c))) r.leaves ∙ more (at + (2 + width r.kind)))

read_front_event : (n : ℕ) (bytes : List ℕ) (at : ℕ) (f : File) (e : Event) (tail : List ℕ) (g : File) → Front bytes f (event e) tail →
    ((at : ℕ) → read_from n tail at (added f (event e)) ≡ accepted g) → read_from (suc n) bytes at f ≡ accepted g
read_front_event n bytes at f e tail g r more =
    read_event n bytes at f r.kind e (sound_check bytes f r.kind r.sound) r.says
    ∙ (ap (λ s. read_from n s (at + (2 + width r.kind)) (added f (event e))) r.leaves ∙ more (at + (2 + width r.kind)))

-- ---- all cells, then all events, then EN

read_cells : (todo done : List Cell) (rest : List ℕ) (g : File) (n : ℕ) → length done + length todo ≤ 128 → Lower (table_of (done ++ todo)) →
    ((at : ℕ) → read_from n rest at (only_cells (done ++ todo)) ≡ accepted g) → (at : ℕ) → read_from (length todo + n) (joined cell_bytes todo ++ rest) at (only_cells done) ≡ accepted g
unfolding joined
read_cells [] done rest g n few low more at = rw (zero-add n) (subst (λ l. read_from n rest at (only_cells l) ≡ accepted g) (append-nil done) (more at))
read_cells (c ∷ todo) done rest g n few low more at =
    rw (suc-add (length todo) n, append_assoc (cell_bytes c) (joined cell_bytes todo) rest)
    (read_front_cell (length todo + n) (cell_bytes c ++ (joined cell_bytes todo ++ rest)) at (only_cells done) c (joined cell_bytes todo ++ rest) g
    (front_cell done c (joined cell_bytes todo ++ rest) (omega arith) (λ d p. low (length done) d (subst (λ k. Part k d) (sym (get_or-append_seam done c todo (AT 0))) p)))
    (read_cells todo (done ++ (c ∷ [])) rest g n (let z = length-append done (c ∷ []) in omega arith)
    (subst (λ l. Lower (table_of l)) (sym (append_snoc done c todo)) low) (subst (λ l. (at : ℕ) → read_from n rest at (only_cells l) ≡ accepted g) (sym (append_snoc done c todo)) more)))

-- What the events of a file keep, the cells given.
record Events (cells : List Cell) (events : List Event) : Type 0 where
  few : length events ≤ 128
  inside : (p : ℕ) (e : Event) → run_of events p ≡ some e → aim e < length cells
  formed : WellFormed (table_of cells) (run_of events)

elem_seam : (done : List Event) (e : Event) (todo : List Event) → get_elem? (done ++ (e ∷ todo)) (length done) ≡ some e
elem_seam [] e todo = refl
elem_seam (x ∷ done) e todo = elem_seam done e todo

elem_left : (done todo : List Event) (q : ℕ) → q < length done → get_elem? (done ++ todo) q ≡ get_elem? done q
elem_left [] todo q h = absurd (omega arith)
elem_left (x ∷ done) todo zero h = refl
elem_left (x ∷ done) todo (suc q) h = elem_left done todo q (omega arith)

-- The event behind those that are done is not a loose LN.
not_loose : (cells : List Cell) (done : List Event) (e : Event) (todo : List Event) → Lower (table_of cells) → WellFormed (table_of cells) (run_of (done ++ (e ∷ todo))) →
    loose (record { cells = cells; events = done }) (event e) ≡ false
not_loose cells done (MK c) todo low formed = refl
not_loose cells done (LN c) todo low formed = (unheld_false (table_of cells) low done c).1 (λ v t w. held v t w)
  where
    held : (v : ℕ) → table_of cells v ≡ VA → Within (table_of cells) v c → HeldBy (table_of cells) done v
    held v t w =
        let (q, m, l, e, u) = formed (length done) c v (elem_seam done (LN c) todo) t w in
        (m, place_member done q (MK m) (sym (elem_left done (LN c ∷ todo) q l) ∙ e), u)

read_events : (cells : List Cell) → Lower (table_of cells) → (todo done : List Event) (rest : List ℕ) (g : File) (n : ℕ) → Events cells (done ++ todo) →
    ((at : ℕ) → read_from n rest at (record { cells = cells; events = done ++ todo }) ≡ accepted g) →
    (at : ℕ) → read_from (length todo + n) (joined event_bytes todo ++ rest) at (record { cells = cells; events = done }) ≡ accepted g
unfolding joined
read_events cells low [] done rest g n ev more at =
    rw (zero-add n) (subst (λ l. read_from n rest at (record { cells = cells; events = l }) ≡ accepted g) (append-nil done) (more at))
read_events cells low (e ∷ todo) done rest g n ev more at =
    let z = length-append done (e ∷ todo) in
    rw (suc-add (length todo) n, append_assoc (event_bytes e) (joined event_bytes todo) rest)
    (read_front_event (length todo + n) (event_bytes e ++ (joined event_bytes todo ++ rest)) at (record { cells = cells; events = done }) e (joined event_bytes todo ++ rest) g
    (front_event (record { cells = cells; events = done }) e (joined event_bytes todo ++ rest) (omega (arith, ev.few)) (ev.inside (length done) e (elem_seam done e todo))
    (not_loose cells done e todo low ev.formed))
    (read_events cells low todo (done ++ (e ∷ [])) rest g n (subst (Events cells) (sym (append_snoc done e todo)) ev)
    (subst (λ l. (at : ℕ) → read_from n rest at (record { cells = cells; events = l }) ≡ accepted g) (sym (append_snoc done e todo)) more)))

read_mark_end : (n : ℕ) (at : ℕ) (f : File) → read_from (suc n) (mark End) at f ≡ accepted f
read_mark_end n at f = let r = front_end f in read_end n (mark End) at f r.kind (sound_check (mark End) f r.kind r.sound) r.says

pub written_read : (f : File) → Accepted f → read_file (file_bytes f) ≡ accepted f
written_read f a =
    read_more (length f.cells + (length f.events + 257)) (file_bytes f) (omega arith)
    ∙ read_cells f.cells [] (joined event_bytes f.events ++ mark End) f (length f.events + 257) (omega (arith, a.few_cells)) a.lower
    (read_events f.cells a.lower f.events [] (mark End) f 257 (record { few = a.few_events; inside = a.inside; formed = a.formed })
    (λ at. read_mark_end 256 at f)) 0
