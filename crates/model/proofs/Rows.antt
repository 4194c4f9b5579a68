-- The words of a list of cells are its table, and the words of a list of events its run. The bytes of an accepted file's cells are bytes.
use mathlib.Core.Path.{◌≡◌, refl, sym, ◌∙◌, ap, subst}
use mathlib.Core.Bool.{Bool, true, false, cond}
use mathlib.Core.List.{List, [], ◌∷◌, ◌++◌, map}
use mathlib.Core.Option.{some, none}
use Prim.Native.Nat.{ℕ, zero, suc, ◌+◌, ◌-◌, ◌*◌, ◌/◌, ◌%◌, ◌≤◌, ◌<◌}
use native.Mathlib.Nat.{div-add-mod'}
use native.Mathlib.Decide.{dec_lt}
use native.Mathlib.Omega.{arith}
use lib.ListN.{length, get_or, get_elem?, replicate, length-append, length-map, length-replicate, get_or-eq_default}
use lib.Dec.{ltb}
use borrow.Author.Tests.{ltb-true, ltb-false, lt-ltb, le-ltb}
use Rattle.model.specs.Message.{App, Two}
use Rattle.model.specs.Case.{Cell, AT, VA, ONE, TWO, AP, Event, MK, LN, table_of, run_of, Part, in_arg, in_left, in_right, Lower}
use Rattle.model.specs.Reduce.{kind}
use Rattle.model.specs.Stored.{cell_at, cell_in, table_in, first, second, word_of, event_at, event_in, run_in, asks, aim, event_word, row}
use Rattle.model.proofs.Listed.{elem_get_d}
use Rattle.model.proofs.Accepted.{Small}

pub zeros : (k c : ℕ) → ◌≡◌ {A = ℕ} (get_or (replicate k 0) c 0) 0
zeros zero c = refl
zeros (suc k) zero = refl
zeros (suc k) (suc c) = zeros k c

module _ {A : Type 0} (word : A → ℕ) where
  words_at : (xs : List A) (d : A) (k c : ℕ) → word d ≡ 0 → get_or (map word xs ++ replicate k 0) c 0 ≡ word (get_or xs c d)
  words_at [] d k c z = zeros k c ∙ sym z
  words_at (x ∷ xs) d k zero z = refl
  words_at (x ∷ xs) d k (suc c) z = words_at xs d k c z

  -- The word at a place is that of the element there; past the list that of d, which is 0.
  pub row_at : (xs : List A) (d : A) (c : ℕ) → word d ≡ 0 → get_or (row word xs) c 0 ≡ word (get_or xs c d)
  row_at xs d c z = words_at xs d (128 - length xs) c z

  pub length_row : (xs : List A) → length xs ≤ 128 → length (row word xs) ≡ 128
  length_row xs h =
      let a = length-append (map word xs) (replicate (128 - length xs) 0) in
      let b = length-map xs word in
      let c = length-replicate {A = ℕ} (128 - length xs) 0 in
      omega arith

-- A cell is that of its kind and its two bytes.
pub cell_bytes_lem : (k : Cell) → cell_at (kind k) (first k) (second k) ≡ k
cell_bytes_lem (AT n) = ap AT (div-add-mod' n 256)
cell_bytes_lem VA = refl
cell_bytes_lem (ONE (App f) a) = refl
cell_bytes_lem (TWO Two.Pair l r) = refl
cell_bytes_lem (TWO Two.Seal l r) = refl

pub event_bytes_lem : (e : Event) → event_at (asks e) (aim e) ≡ e
event_bytes_lem (MK c) = refl
event_bytes_lem (LN c) = refl

kind_known : (k : Cell) → kind k ≤ 4
kind_known (AT n) = omega arith
kind_known VA = omega arith
kind_known (ONE (App f) a) = omega arith
kind_known (TWO Two.Pair l r) = omega arith
kind_known (TWO Two.Seal l r) = omega arith

asks_known : (e : Event) → asks e ≤ 1
asks_known (MK c) = omega arith
asks_known (LN c) = omega arith

-- A word's kind and bytes.
word_kind : (k a b : ℕ) → k < 256 → a < 256 → b < 256 → (k * 65536 + a * 256 + b) / 65536 % 256 ≡ k
word_kind k a b hk ha hb = omega arith

word_first : (k a b : ℕ) → k < 256 → a < 256 → b < 256 → (k * 65536 + a * 256 + b) / 256 % 256 ≡ a
word_first k a b hk ha hb = omega arith

word_second : (k a b : ℕ) → k < 256 → a < 256 → b < 256 → (k * 65536 + a * 256 + b) % 256 ≡ b
word_second k a b hk ha hb = omega arith

-- The word of a kind and two bytes is their cell.
pub word_cell : (k a b : ℕ) → k < 256 → a < 256 → b < 256 → cell_in (k * 65536 + a * 256 + b) ≡ cell_at k a b
word_cell k a b hk ha hb = rw (word_kind k a b hk ha hb, word_first k a b hk ha hb, word_second k a b hk ha hb) refl

-- The bytes of a cell are bytes.
abbrev pub Fits : Cell → Type 0
Fits k = (first k < 256) × (second k < 256)

-- A cell whose bytes are bytes is that of its word; so is an event.
pub cell_word : (k : Cell) → Fits k → cell_in (word_of k) ≡ k
cell_word k (a, b) = let h = kind_known k in word_cell (kind k) (first k) (second k) (omega arith) a b ∙ cell_bytes_lem k

pub event_word_lem : (e : Event) → aim e < 256 → event_in (event_word e) ≡ e
event_word_lem e h =
    let k = asks_known e in
    let a : (asks e * 65536 + aim e) / 65536 % 256 ≡ asks e = omega arith in
    let b : (asks e * 65536 + aim e) % 256 ≡ aim e = omega arith in
    rw (a, b) (event_bytes_lem e)

-- The table at one of its 128 words, and past them.
module _ (words : List ℕ) (c : ℕ) where
  pub table_at : c < 128 → table_in words c ≡ cell_in (get_or words c 0)
  table_at h = rw (lt-ltb c 128 h)

  pub table_past : 128 ≤ c → table_in words c ≡ AT 0
  table_past h = rw (le-ltb c 128 h)

-- The words at a place, and as the table. Past the cells they have the zeros of his own name.
module _ (cells : List Cell) (c : ℕ) where
  pub word_row : get_or (row word_of cells) c 0 ≡ word_of (table_of cells c)
  word_row = row_at word_of cells (AT 0) c refl

  pub table_words : length cells ≤ 128 → Fits (table_of cells c) → table_in (row word_of cells) c ≡ table_of cells c
  table_words few f = go (ltb c 128) refl
    where
      go : (b : Bool) → ltb c 128 ≡ b → cond b (cell_in (get_or (row word_of cells) c 0)) (AT 0) ≡ table_of cells c
      go true e = ap cell_in word_row ∙ cell_word (table_of cells c) f
      go false e =
          let far = ltb-false c 128 e in
          let past : length cells ≤ c = omega arith in
          sym (get_or-eq_default cells (AT 0) past)

pub run_words : (events : List Event) → ((p : ℕ) → aim (get_or events p (MK 0)) < 256) → (p : ℕ) → run_in (length events) (row event_word events) p ≡ run_of events p
run_words events small p = go (ltb p (length events)) refl
  where
    there : event_in (get_or (row event_word events) p 0) ≡ get_or events p (MK 0)
    there = ap event_in (row_at event_word events (MK 0) p refl) ∙ event_word_lem (get_or events p (MK 0)) (small p)

    past : (l : List Event) (i : ℕ) → length l ≤ i → none ≡ get_elem? l i
    past [] i h = refl
    past (e ∷ l) zero h = absurd (omega arith)
    past (e ∷ l) (suc i) h = past l i (omega arith)

    go : (b : Bool) → ltb p (length events) ≡ b → cond b (some (event_in (get_or (row event_word events) p 0))) none ≡ run_of events p
    go true e = ap some there ∙ sym (elem_get_d events p (MK 0) (ltb-true p (length events) e))
    go false e = past events p (ltb-false p (length events) e)

-- ---- the bytes of an accepted file's cells

pub no_part : {n d : ℕ} → Part (AT n) d → ⊥
no_part p = elim p [ ]

module _ (cells : List Cell) where
  -- Past the cells stands his own name.
  pub past_cells : (c : ℕ) → length cells ≤ c → table_of cells c ≡ AT 0
  past_cells c h = get_or-eq_default cells (AT 0) h

  -- A cell's parts are below the cell count.
  pub part_below : Lower (table_of cells) → (c d : ℕ) → Part (table_of cells c) d → d < length cells
  part_below low c d p = elim (dec_lt c (length cells)) [
    | yes h ↦ (let l = low c d p in omega arith)
    | no h ↦ absurd (no_part (subst (λ k. Part k d) (past_cells c (omega arith)) p))
  ]

-- The bytes of a cell fit, if its name, its function and its parts do.
fields_fit : (k : Cell) → ((n : ℕ) → k ≡ AT n → n < 65536) → ((g a : ℕ) → k ≡ AP g a → g < 256) → ((d : ℕ) → Part k d → d < 256) → Fits k
fields_fit (AT n) name function part = let h = name n refl in (omega arith, omega arith)
fields_fit VA name function part = (omega arith, omega arith)
fields_fit (ONE (App f) a) name function part = (function f a refl, part a in_arg)
fields_fit (TWO h l r) name function part = (part l in_left, part r in_right)

pub cell_fits : (cells : List Cell) → length cells ≤ 128 → Lower (table_of cells) → Small cells → (c : ℕ) → Fits (table_of cells c)
cell_fits cells few low small c =
    fields_fit (table_of cells c) (small.names c) (small.functions c) (λ d p. let l = part_below cells low c d p in omega arith)
