-- The bytes of records, written one after another.
use mathlib.Core.Path.{◌≡◌, refl, sym, ◌∙◌, ap}
use mathlib.Core.Bool.{cond}
use mathlib.Core.List.{List, [], ◌∷◌, ◌++◌, map, append-nil}
use Prim.Native.Nat.{ℕ, zero, suc, ◌+◌, ◌*◌, ◌≤◌, ◌<◌}
use native.Mathlib.Omega.{arith}
use native.Mathlib.Numerals.{add-one}
use lib.ListN.{length, get_or, drop, length-append}
use lib.Seq.{sets}
use borrow.Author.Tests.{eq-eqb, ne_eqb}
use Rattle.model.specs.Message.{App, Two}
use Rattle.model.specs.Case as case
use Rattle.model.specs.Case.{AT, VA, ONE, TWO, LN}
use Rattle.model.specs.Format.{Kind, mark, cell_bytes, event_bytes, joined, file_bytes}
use Rattle.model.specs.Stored.{table_in}
use Rattle.model.proofs.Listed.{sets_append, sets_front}
use Rattle.records.proofs.Rows.{joined_last}
use Rattle.reducing.specs.declared.Plan.{Plan}
use Rattle.reducing.specs.Plan.{up_to, marked, planned, Sized}

-- ---- one record
pub cell_length : (k : case.Cell) → (k ≡ VA → ⊥) → length (cell_bytes k) ≡ 4
cell_length (AT n) v = refl
cell_length VA v = absurd (v refl)
cell_length (ONE (App f) a) v = refl
cell_length (TWO Two.Pair l r) v = refl
cell_length (TWO Two.Seal b s) v = refl

-- ---- records in a row
pub events_length : (l : List ℕ) → length (joined event_bytes (map LN l)) ≡ 3 * length l
unfolding joined
events_length [] = refl
events_length (c ∷ l) = (let h = events_length l in omega arith)

-- ---- the cells
module _ (words : List ℕ) where
  abbrev row : case.Table
  row = table_in words

  pub cells_length : (n : ℕ) → ((j : ℕ) → j < n → row j ≡ VA → ⊥) → length (joined cell_bytes (up_to row n)) ≡ 4 * n
  unfolding up_to joined
  cells_length zero h = refl
  cells_length (suc n) h =
      let a = cells_length n (λ j l. h j (omega arith)) in
      let b = cell_length (row n) (h n (omega arith)) in
      let c = length-append (joined cell_bytes (up_to row n)) (cell_bytes (row n)) in
      ap length (joined_last cell_bytes (up_to row n) (row n)) ∙ (omega arith)

  -- The record of the cell i behind those before it.
  pub cells_next : (l out after : List ℕ) (i n : ℕ) → i < n → ((j : ℕ) → j < n → row j ≡ VA → ⊥) → out ≡ sets l 0 (joined cell_bytes (up_to row i)) →
      after ≡ sets out (4 * i) (cell_bytes (row i)) → after ≡ sets l 0 (joined cell_bytes (up_to row (i + 1)))
  unfolding up_to
  cells_next l out after i n lt v e f =
      let s = cells_length i (λ j h. v j (omega arith)) in
      f ∙ (ap (λ o. sets o (4 * i) (cell_bytes (row i))) e ∙ (sets_append (joined cell_bytes (up_to row i)) l (cell_bytes (row i)) 0 (4 * i) (omega arith) ∙
      (ap (sets l 0) (sym (joined_last cell_bytes (up_to row i) (row i))) ∙ ap (λ k. sets l 0 (joined cell_bytes (up_to row k))) (sym (add-one i)))))

-- ---- the events
map_last : (l : List ℕ) (n : ℕ) → map LN (l ++ (n ∷ [])) ≡ map LN l ++ (LN n ∷ [])
map_last [] n = refl
map_last (x ∷ l) n = ap (λ r. LN x ∷ r) (map_last l n)

mark_yes : (marks : List ℕ) (i : ℕ) → get_or marks i 0 ≡ 1 → marked marks (i + 1) ≡ marked marks i ++ (i ∷ [])
unfolding marked
mark_yes marks i e = ap (marked marks) (add-one i) ∙ ap (λ t. marked marks i ++ cond t (i ∷ []) []) (eq-eqb (get_or marks i 0) 1 e)

mark_no : (marks : List ℕ) (i : ℕ) → (get_or marks i 0 ≡ 1 → ⊥) → marked marks (i + 1) ≡ marked marks i
unfolding marked
mark_no marks i e = ap (marked marks) (add-one i) ∙ (ap (λ t. marked marks i ++ cond t (i ∷ []) []) (ne_eqb (get_or marks i 0) 1 e) ∙ append-nil (marked marks i))

-- The events of the cells below i stand in the buffer from `start` on, up to `at`.
pub record Learning (marks : List ℕ) (start : ℕ) (l : List ℕ) (i at : ℕ) (out : List ℕ) : Type 0 where
  pub place : at ≡ start + 3 * length (marked marks i)
  pub bytes : out ≡ sets l start (joined event_bytes (map LN (marked marks i)))

module _ (marks : List ℕ) (start : ℕ) (l : List ℕ) where
  pub learning_start : Learning marks start l 0 start l
  unfolding marked joined
  learning_start = record { place = omega arith; bytes = refl }

  module _ (i at : ℕ) (out : List ℕ) (L : Learning marks start l i at out) where
    pub learning_skip : (get_or marks i 0 ≡ 1 → ⊥) → Learning marks start l (i + 1) at out
    learning_skip h = record {
      place = L.place ∙ ap (λ k. start + 3 * length k) (sym (mark_no marks i h));
      bytes = L.bytes ∙ ap (λ k. sets l start (joined event_bytes (map LN k))) (sym (mark_no marks i h));
    }

    at_end : at ≡ start + length (joined event_bytes (map LN (marked marks i)))
    at_end = L.place ∙ ap (λ k. start + k) (sym (events_length (marked marks i)))

    pub learning_more : (after : List ℕ) → get_or marks i 0 ≡ 1 → after ≡ sets out at (event_bytes (LN i)) → Learning marks start l (i + 1) (at + 3) after
    learning_more after h e =
        let m = mark_yes marks i h in
        let s = ap length m ∙ length-append (marked marks i) (i ∷ []) in
        let p = L.place in
        record {
          place = omega arith;
          bytes = e ∙ (ap (λ o. sets o at (event_bytes (LN i))) L.bytes ∙ (sets_append (joined event_bytes (map LN (marked marks i))) l (event_bytes (LN i)) start at at_end ∙
              (ap (sets l start) (sym (joined_last event_bytes (map LN (marked marks i)) (LN i))) ∙
              (ap (λ k. sets l start (joined event_bytes k)) (sym (map_last (marked marks i) i)) ∙ ap (λ k. sets l start (joined event_bytes (map LN k))) (sym m)))));
        }

    pub learning_end : (after : List ℕ) → after ≡ sets out at (69 ∷ 78 ∷ []) → after ≡ sets l start (joined event_bytes (map LN (marked marks i)) ++ mark Kind.End)
    learning_end after e = e ∙ (ap (λ o. sets o at (69 ∷ 78 ∷ [])) L.bytes ∙ sets_append (joined event_bytes (map LN (marked marks i))) l (69 ∷ 78 ∷ []) start at at_end)

-- ---- the file
pub file_length : (p : Plan) → Sized p → 4 * p.cells + 3 * p.events + 2 ≡ length (file_bytes (planned p))
file_length p s =
    let A : List ℕ = joined cell_bytes (up_to (table_in p.table) p.cells) in
    let B : List ℕ = joined event_bytes (map LN (marked p.learnt p.cells)) in
    let a : length A ≡ 4 * p.cells = cells_length p.table p.cells s.solid in
    let b : length B ≡ 3 * length (marked p.learnt p.cells) = events_length (marked p.learnt p.cells) in
    let c = s.counts in
    let d : length (B ++ mark Kind.End) ≡ length B + 2 = length-append B (mark Kind.End) in
    let e : length (A ++ (B ++ mark Kind.End)) ≡ length A + length (B ++ mark Kind.End) = length-append A (B ++ mark Kind.End) in
    omega arith

pub file_written : (p : Plan) → Sized p → (l middle after : List ℕ) → length (file_bytes (planned p)) ≤ length l → middle ≡ sets l 0 (joined cell_bytes (planned p).cells) →
    after ≡ sets middle (4 * p.cells) (joined event_bytes (planned p).events ++ mark Kind.End) → after ≡ file_bytes (planned p) ++ drop (length (file_bytes (planned p))) l
file_written p s l middle after h e f =
    let A : List ℕ = joined cell_bytes (planned p).cells in
    let B : List ℕ = joined event_bytes (planned p).events ++ mark Kind.End in
    let a = cells_length p.table p.cells s.solid in
    f ∙ (ap (λ o. sets o (4 * p.cells) B) e ∙ (sets_append A l B 0 (4 * p.cells) (omega arith) ∙ sets_front (A ++ B) l h))
