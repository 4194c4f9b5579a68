-- The list that is written: its length, its entries, and one byte more of it in a buffer.
use mathlib.Core.Path.{◌≡◌, refl, sym, ◌∙◌, ap}
use mathlib.Core.List.{List, [], ◌∷◌, ◌++◌, append_assoc}
use Prim.Native.Nat.{ℕ, zero, suc, ◌+◌, ◌≤◌, ◌<◌}
use native.Mathlib.Decide.{dec_lt}
use native.Mathlib.Numerals.{add-one}
use native.Mathlib.Omega.{arith}
use lib.ListN.{length, get_or, drop, set, get_or-append, get_or-eq_default}
use lib.Seq.{drop-cons, set_at, get_or_at}
use Rattle.model.specs.Case.{Cell, AT, VA, ONE, TWO, Table}
use Rattle.model.proofs.Listed.{length_snoc}
use Rattle.equating.specs.Entries.{entry_of, list_of}

-- A variable's entry, and any other cell's.
pub entry_var : {k : Cell} (x c : ℕ) → k ≡ VA → entry_of k x c ≡ x
entry_var x c e = ap (λ (k : Cell). entry_of k x c) e

pub entry_own : (k : Cell) (x c : ℕ) → (k ≡ VA → ⊥) → entry_of k x c ≡ c
entry_own (AT n) x c s = refl
entry_own VA x c s = absurd (s refl)
entry_own (ONE g a) x c s = refl
entry_own (TWO h l r) x c s = refl

module _ (T : Table) (rep : List ℕ) where
  abbrev entry_at : ℕ → ℕ
  entry_at c = entry_of (T c) (get_or rep c 0) c

  pub length_list_of : (n : ℕ) → length (list_of T rep n) ≡ n
  unfolding list_of
  length_list_of zero = refl
  length_list_of (suc n) = let z = length_snoc (list_of T rep n) (entry_at n) in let e = length_list_of n in omega arith

  -- The entry of a cell below n; past the list the default.
  pub list_of_at : (n c d : ℕ) → c < n → get_or (list_of T rep n) c d ≡ entry_of (T c) (get_or rep c 0) c
  unfolding list_of
  list_of_at zero c d h = absurd (omega arith)
  list_of_at (suc n) c d h = elim (dec_lt c n) [
    | yes l ↦ get_or-append (list_of T rep n) (entry_at n ∷ []) d c (let e = length_list_of n in omega arith) ∙ list_of_at n c d l
    | no l ↦ (let z : c ≡ n = omega arith in get_or_at (list_of T rep n) (entry_at n) [] d c (length_list_of n ∙ sym z) ∙ ap entry_at (sym z))
  ]

  pub list_of_past : (n c d : ℕ) → n ≤ c → get_or (list_of T rep n) c d ≡ d
  list_of_past n c d h = get_or-eq_default (list_of T rep n) d (let e = length_list_of n in omega arith)

  -- One byte more of the list, in the buffer.
  pub list_of_next : (before : List ℕ) (i : ℕ) → i < length before →
      set (list_of T rep i ++ drop i before) i (entry_of (T i) (get_or rep i 0) i) ≡ list_of T rep (i + 1) ++ drop (i + 1) before
  unfolding list_of
  list_of_next before i h = rw (drop-cons before i 0 h, add-one, append_assoc) (set_at (list_of T rep i) (get_or before i 0) (drop (suc i) before) (entry_at i) i (length_list_of i))

  pub list_of_none : (before : List ℕ) → before ≡ list_of T rep 0 ++ drop 0 before
  unfolding list_of
  list_of_none before = refl
