-- The lines of values: an entry as text, the line of a cell, and the lines of a table.
use mathlib.Core.Path.{◌≡◌, refl, ◌∙◌, ap}
use mathlib.Core.List.{List, [], ◌∷◌, ◌++◌}
use Prim.Native.Nat.{ℕ, zero, suc, ◌+◌, ◌<◌, ◌≤◌}
use native.Mathlib.Omega.{arith}
use native.Mathlib.Numerals.{add-one}
use borrow.Author.Tests.{eq-eqb, ne_eqb}
use lib.ListN.{length, get_or, drop, get_or-append}
use Rattle.model.specs.Case.{Cell, AT, VA, ONE, TWO, Table}
use Rattle.model.specs.Replies.{laid}
use Rattle.printing.specs.Lines.{feed, value, value_line, line_of, value_lines}
use Rattle.lines.specs.Put.{told}
use Rattle.lines.specs.Put.{Put}
use Rattle.printing.proofs.PutLaws.{put_none}
use Rattle.lines.proofs.PutLaws.{put_join}

module _ {before after : List ℕ} {at r : ℕ} where
  -- ---- an entry

  pub put_own : (x : ℕ) → x ≡ 255 → Put (32 ∷ 61 ∷ 32 ∷ 111 ∷ 119 ∷ 110 ∷ 10 ∷ []) before at after r → Put (value x) before at after r
  put_own x e p = rw (eq-eqb x 255 e) p

  pub put_cell : (x : ℕ) → (x ≡ 255 → ⊥) → Put (told (32 ∷ 61 ∷ 32 ∷ []) x ++ feed) before at after r → Put (value x) before at after r
  put_cell x e p = rw (ne_eqb x 255 e) p

  -- ---- a cell

  pub put_variable : {k : Cell} (v x : ℕ) → k ≡ VA → Put (value_line v x) before at after r → Put (line_of k v x) before at after r
  put_variable v x e p = rw e p

  pub put_other : (k : Cell) (v x : ℕ) → (k ≡ VA → ⊥) → Put [] before at after r → Put (line_of k v x) before at after r
  put_other (AT n) v x s p = p
  put_other VA v x s p = absurd (s refl)
  put_other (ONE g a) v x s p = p
  put_other (TWO h l m) v x s p = p

-- ---- cells in a row

module _ (T : Table) (list before : List ℕ) (at : ℕ) where
  pub put_first : at ≤ length before → Put (value_lines T list 0) before at before at
  unfolding value_lines
  put_first h = put_none before at h

  pub put_next : {between after : List ℕ} {next r : ℕ} (v : ℕ) → Put (value_lines T list v) before at between next →
      Put (line_of (T v) v (get_or list v 0)) between next after r → Put (value_lines T list (v + 1)) before at after r
  unfolding value_lines
  put_next v p q = rw (add-one v) (put_join p q)

-- ---- the lines of a table

-- Entries beyond the cells do not matter.
lines_same : (T : Table) (list list' : List ℕ) (n : ℕ) → ((v : ℕ) → v < n → get_or list v 0 ≡ get_or list' v 0) → value_lines T list n ≡ value_lines T list' n
unfolding value_lines
lines_same T list list' zero h = refl
lines_same T list list' (suc n) h =
    ap (λ l. l ++ line_of (T n) n (get_or list n 0)) (lines_same T list list' n (λ v k. h v (omega arith))) ∙
    ap (λ x. value_lines T list' n ++ line_of (T n) n x) (h n (omega arith))

pub lines_laid : (T : Table) (list before : List ℕ) (n : ℕ) → length list ≡ n → value_lines T (laid list before) n ≡ value_lines T list n
lines_laid T list before n e = lines_same T (laid list before) list n (λ v h. get_or-append list (drop (length list) before) 0 v (omega arith))
