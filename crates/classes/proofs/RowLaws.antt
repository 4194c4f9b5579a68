-- Entries of a class array.
use mathlib.Core.Path.{◌≡◌, sym, ◌∙◌, ap}
use mathlib.Core.List.{List}
use Prim.Native.Nat.{ℕ, ◌≤◌, ◌<◌}
use native.Mathlib.Omega.{arith}
use native.Mathlib.Nat.{min-eq_left, min-eq_right}
use lib.ListN.{get_or, set}
use lib.Seq.{get_or-set_other}
use Rattle.theory.specs.Cells.{class_at}

pub class_low : (rep : List ℕ) (c : ℕ) → c ≤ 128 → get_or rep c 0 ≡ class_at rep c
class_low rep c h = ap (λ (i : ℕ). get_or rep i 0) (sym (min-eq_left h))

pub class_high : (rep : List ℕ) (c : ℕ) → 128 ≤ c → get_or rep 128 0 ≡ class_at rep c
class_high rep c h = ap (λ (i : ℕ). get_or rep i 0) (sym (min-eq_right h))

-- A new entry changes no class below it.
pub class_below : (rep : List ℕ) (c r : ℕ) → c ≤ 128 → (i : ℕ) → i < c → class_at rep i ≡ class_at (set rep c r) i
class_below rep c r h i l = sym (class_low rep i (omega arith)) ∙ sym (get_or-set_other rep c i r 0 (λ e. omega arith)) ∙ class_low (set rep c r) i (omega arith)
