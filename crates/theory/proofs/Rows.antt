-- The words in which the table and the run of an accepted file lie, and what they say of the table.
use mathlib.Core.Path.{◌≡◌, refl, ◌∙◌, ap, subst}
use mathlib.Core.List.{List}
use Prim.Native.Nat.{ℕ, ◌≤◌, ◌<◌}
use native.Mathlib.Omega.{arith}
use native.Mathlib.Decide.{dec_lt}
use lib.ListN.{length, get_or, get_or-eq_default}
use Rattle.model.specs.Case.{Cell, VA, MK, File, table_of, run_of, Part, Lower}
use Rattle.model.specs.Format.{read_file, accepted}
use Rattle.model.specs.Stored.{word_of, aim, event_in, event_word, row, table_in, run_in}
use Rattle.model.proofs.Accepted.{Bytes, accepted_file, small_file}
use Rattle.model.proofs.Read.{clash}
use Rattle.model.proofs.Listed.{elem_get_d}
use Rattle.model.proofs.Rows.{Fits, row_at, table_words, run_words, event_word_lem, past_cells, no_part, cell_fits}
use Rattle.theory.specs.Cells.{Formed, TableWords, RunWords}

module _ (cells : List Cell) (few : length cells ≤ 128) (fits : (c : ℕ) → Fits (table_of cells c)) where
  pub words_lower : Lower (table_of cells) → Lower (table_in (row word_of cells))
  words_lower low c d p = low c d (subst (λ k. Part k d) (table_words cells c few (fits c)) p)

  pub words : Lower (table_of cells) → TableWords (length cells) (row word_of cells)
  words low = record {
    few = few;
    lower = words_lower low;
    beyond = λ c h. table_words cells c few (fits c) ∙ past_cells cells c h;
  }

-- The words of an accepted file's cells show its table.
module _ (s : List ℕ) (f : File) (b : Bytes s) (e : read_file s ≡ accepted f) where
  fits_file : (c : ℕ) → Fits (table_of f.cells c)
  fits_file = let a = accepted_file s f e in cell_fits f.cells a.few_cells a.lower (small_file s f b e)

  pub accepted_table : (c : ℕ) → table_in (row word_of f.cells) c ≡ table_of f.cells c
  accepted_table c = table_words f.cells c (accepted_file s f e).few_cells (fits_file c)

  pub accepted_words : TableWords (length f.cells) (row word_of f.cells)
  accepted_words = let a = accepted_file s f e in words f.cells a.few_cells fits_file a.lower

-- The words of its events show its run.
module _ (s : List ℕ) (f : File) (e : read_file s ≡ accepted f) where
  aim_below : (p : ℕ) → p < length f.events → aim (get_or f.events p (MK 0)) < length f.cells
  aim_below p h = (accepted_file s f e).inside p (get_or f.events p (MK 0)) (elem_get_d f.events p (MK 0) h)

  aim_small : (p : ℕ) → aim (get_or f.events p (MK 0)) < 256
  aim_small p = elim (dec_lt p (length f.events)) [
    | yes h ↦ (let l = aim_below p h in let m = (accepted_file s f e).few_cells in omega arith)
    | no h ↦ (
        let past : length f.events ≤ p = omega arith in
        let e = get_or-eq_default f.events (MK 0) past in
        rw e (omega arith))
  ]

  pub accepted_run : (p : ℕ) → run_in (length f.events) (row event_word f.events) p ≡ run_of f.events p
  accepted_run = run_words f.events aim_small

  event_at_lem : (p : ℕ) → event_in (get_or (row event_word f.events) p 0) ≡ get_or f.events p (MK 0)
  event_at_lem p = ap event_in (row_at event_word f.events (MK 0) p refl) ∙ event_word_lem (get_or f.events p (MK 0)) (aim_small p)

  pub accepted_events : RunWords (length f.cells) (row event_word f.events) (length f.events)
  accepted_events = record { few = (accepted_file s f e).few_events; below = λ p h. rw (event_at_lem p) (aim_below p h) }

-- ---- what the words say of the table

module _ {n : ℕ} {words : List ℕ} (w : TableWords n words) where
  pub rows_formed : Formed (table_in words)
  rows_formed = record { lower = w.lower; name = w.beyond 128 w.few }

  -- A variable, and a cell with a part, is one of the table's; so is the part.
  pub rows_var : (c : ℕ) → table_in words c ≡ VA → c < n
  rows_var c v = elim (dec_lt c n) [ yes h ↦ h | no h ↦ (let e = w.beyond c (omega arith) in clash (cc)) ]

  pub rows_part : (c d : ℕ) → Part (table_in words c) d → (c < n) × (d < n)
  rows_part c d p = elim (dec_lt c n) [
    | yes h ↦ (h, omega (arith, w.lower c d p))
    | no h ↦ absurd (no_part (subst (λ k. Part k d) (w.beyond c (omega arith)) p))
  ]
