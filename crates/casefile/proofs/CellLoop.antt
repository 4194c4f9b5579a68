-- The loop over the cell records.
use mathlib.Core.Path.{◌≡◌, refl, sym, ◌∙◌, ap, subst, fun_ext}
use mathlib.Core.Logic.{inl, inr}
use mathlib.Core.List.{List, [], ◌∷◌, ◌++◌}
use Prim.Native.Nat.{ℕ, ◌+◌, ◌≤◌, ◌<◌}
use native.Mathlib.Omega.{arith}
use lib.ListN.{length, drop, length-drop}
use Rattle.model.specs.Case as case
use Rattle.model.specs.Case.{AT, Lower, table_of}
use Rattle.model.specs.Stored.{word_of, table_in}
use Rattle.model.specs.Format.{cell_bytes, check, Checked, Reading, read_from, read_file}
use Rattle.model.proofs.Accepted.{accepted_blank, lower_snoc}
use Rattle.model.proofs.Fuel.{Few}
use Rattle.model.proofs.Listed.{length_snoc, get_d_snoc}
use Rattle.model.proofs.Rows.{Fits, table_words}
use Rattle.theory.specs.Cells.{TableWords}
use Rattle.theory.proofs.Rows.{words}
use Rattle.cells.specs.declared.table.Table.{Table}
use Rattle.casefile.specs.declared.Row.{Row}
use Rattle.casefile.specs.Case.{stored, no_words, with_word}
use Rattle.casefile.specs.Cells.{Before, Next, Begun, Cut}
use Rattle.casefile.proofs.ReadLaws.{read_fault, read_cell, word_more}

-- The file read so far: its cells lie in t, and what is left decides.
pub record CellsSoFar (file : List ℕ) (at : ℕ) (t : Row) : Type 0 where
  pub list : List case.Cell
  pub table : t ≡ stored word_of list
  pub few : length list ≤ 128
  pub lower : Lower (table_of list)
  pub fits : (c : ℕ) → Fits (table_of list c)
  pub place : at ≤ length file
  pub rest : read_from 257 (drop at file) at (record { cells = list; events = [] }) ≡ read_file file

pub cells_start : (file : List ℕ) (t : Row) → t ≡ no_words → CellsSoFar file 0 t
unfolding read_file
cells_start file t e = record {
  list = [];
  table = e;
  few = omega arith;
  lower = accepted_blank.lower;
  fits = λ c. (omega arith, omega arith);
  place = omega arith;
  rest = refl;
}

module _ (file : List ℕ) (at : ℕ) (t : Row) (s : CellsSoFar file at t) where
  abbrev f : case.File
  f = record { cells = s.list; events = [] }

  count : t.count ≡ length s.list
  count = ap (λ x. x.count) s.table

  so_far : Before f t.count
  so_far = record { cells = sym count; events = refl }

  room_left : Few f
  room_left = record { cells = s.few; events = omega arith }

  pub cells_refused : (x : ℕ) → ((g : case.File) → Before g t.count → check (drop at file) g ≡ Checked.fault x) → read_file file ≡ Reading.refused x at
  cells_refused x h = sym s.rest ∙ read_fault file at f room_left x (h f so_far)

  pub cells_formed : TableWords t.count t.words
  cells_formed = subst (λ u. TableWords u.count u.words) (sym s.table) (words s.list s.few s.fits s.lower)

  pub cells_events : (u : Table) → u.words ≡ t.words → u.count ≡ t.count → Begun (drop at file) → Cut file at u
  cells_events u e i b = record {
    list = s.list;
    words = e ∙ ap (λ x. x.words) s.table;
    count = i ∙ count;
    shown = ap table_in e ∙ (ap (λ x. table_in x.words) s.table ∙ fun_ext (λ c. table_words s.list c s.few (s.fits c)));
    place = s.place;
    begun = b;
    rest = s.rest;
  }

  module _ (c : case.Cell) (x : Next (drop at file) t.count c) where
    one_more : length (s.list ++ (c ∷ [])) ≡ length s.list + 1
    one_more = length_snoc s.list c

    room : length s.list < 128
    room = let r = x.room in let k = count in omega arith

    pub step_fits : at + length (cell_bytes c) ≤ length file
    step_fits = let w = x.whole in let z = x.size in let p = s.place in omega (arith, length-drop at file)

    pub cells_next : CellsSoFar file (at + length (cell_bytes c)) (with_word t (word_of c))
    cells_next = record {
      list = s.list ++ (c ∷ []);
      table = ap (λ u. with_word u (word_of c)) s.table ∙ word_more word_of s.list c room;
      few = let r = room in let o = one_more in omega arith;
      lower = lower_snoc s.list c s.lower (λ d q. let b = x.below d q in let k = count in omega arith);
      fits = λ i. elim (get_d_snoc s.list c (AT 0) i) [ inl (e, h) ↦ subst Fits (sym h) x.fits | inr h ↦ subst Fits (sym h) (s.fits i) ];
      place = step_fits;
      rest = sym (read_cell file at f room_left x.tag (x.sound f so_far) (length (cell_bytes c)) c x.size x.says) ∙ s.rest;
    }
