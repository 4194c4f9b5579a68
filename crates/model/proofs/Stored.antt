-- What stored words and bytes say: the kind of a cell, the event at a position, an entry of a list, a reply in a buffer, a mark.
use mathlib.Core.Path.{◌≡◌, refl, ◌∙◌, ap}
use mathlib.Core.Logic.{◌↔◌}
use mathlib.Core.Bool.{Bool, true, false}
use mathlib.Core.List.{List}
use mathlib.Core.Option.{some}
use Prim.Native.Nat.{ℕ, ◌<◌}
use native.Mathlib.Omega.{arith}
use lib.ListN.{length, get_or, take, drop}
use lib.Seq.{take_at, drop_at}
use lib.Dec.{ltb}
use borrow.Author.Tests.{ltb-true, lt-ltb, eq-eqb, ne_eqb}
use Rattle.model.specs.Message.{App, Two}
use Rattle.model.specs.Case.{Cell, AT, VA, ONE, TWO, Event}
use Rattle.model.specs.Values.{cell_of}
use Rattle.model.specs.Reduce.{kind}
use Rattle.model.specs.Replies.{laid, Marked, set, unset}
use Rattle.model.specs.Stored.{event_in, run_in}
use Rattle.model.proofs.Read.{clash}

-- ---- kinds

-- Of kind 1 are the variables, and nothing else.
pub kind_variable : (k : Cell) → kind k ≡ 1 → k ≡ VA
kind_variable (AT n) e = absurd (omega arith)
kind_variable VA e = refl
kind_variable (ONE (App f) a) e = absurd (omega arith)
kind_variable (TWO Two.Pair l r) e = absurd (omega arith)
kind_variable (TWO Two.Seal l r) e = absurd (omega arith)

-- ---- events

module _ (count : ℕ) (words : List ℕ) (p : ℕ) where
  pub run_at : p < count → run_in count words p ≡ some (event_in (get_or words p 0))
  run_at h = rw (lt-ltb p count h)

  -- Every event stands before the end.
  pub run_below : {e : Event} → run_in count words p ≡ some e → p < count
  run_below {e} i = go (ltb p count) refl
    where
      go : (b : Bool) → ltb p count ≡ b → p < count
      go true z = ltb-true p count z
      go false z = clash (cc)

-- ---- entries of a list

-- The entry 255 stands for the cell 128, his own name; every other for its own cell.
pub cell_own : (x : ℕ) → x ≡ 255 → cell_of x ≡ 128
cell_own x e = rw (eq-eqb x 255 e)

pub cell_other : (x : ℕ) → (x ≡ 255 → ⊥) → cell_of x ≡ x
cell_other x n = rw (ne_eqb x 255 n)

-- ---- a reply in a buffer

module _ (list before : List ℕ) (n : ℕ) (size : length list ≡ n) where
  pub laid_front : take n (laid list before) ≡ list
  laid_front = take_at list (drop (length list) before) n size

  pub laid_beyond : drop n (laid list before) ≡ drop n before
  laid_beyond = drop_at list (drop (length list) before) n size ∙ ap (λ (k : ℕ). drop k before) size

-- ---- a mark

module _ {P : Type 0} where
  pub mark_set : {x : ℕ} → Marked P x → (x ≡ 1) ↔ P
  mark_set (set p) = (λ _. p, λ _. refl)
  mark_set (unset never) = (λ e. clash (cc), λ p. absurd (never p))

  pub mark_unset : {x : ℕ} → Marked P x → (x ≡ 0) ↔ (P → ⊥)
  mark_unset (set p) = (λ e. clash (cc), λ never. absurd (never p))
  mark_unset (unset never) = (λ _. never, λ _. refl)
