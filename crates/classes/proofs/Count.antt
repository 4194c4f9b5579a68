-- Fewer numbers pass a test that is harder.
use mathlib.Core.Path.{◌≡◌, refl}
use mathlib.Core.Bool.{Bool, true, false, cond, true≢false}
use mathlib.Core.Logic.{inl, inr}
use Prim.Native.Nat.{ℕ, zero, suc, ◌≤◌, ◌<◌}
use native.Mathlib.Omega.{arith}
use Rattle.model.proofs.Finite.{eq?}
use Rattle.classes.specs.Kept.{count}

one_le : (a b : Bool) → (a ≡ true → b ≡ true) → cond a 1 0 ≤ cond b 1 0
one_le true true f = omega arith
one_le true false f = absurd (true≢false (cc (f refl)))
one_le false b f = omega arith

module _ (f g : ℕ → Bool) (less : (c : ℕ) → g c ≡ true → f c ≡ true) where
  pub count_le : (n : ℕ) → count g n ≤ count f n
  unfolding count
  count_le zero = omega arith
  count_le (suc n) = omega (arith, count_le n, one_le (g n) (f n) (less n))

  module _ (o : ℕ) (yes : f o ≡ true) (no : g o ≡ false) where
    pub count_lt : (n : ℕ) → o < n → count g n < count f n
    unfolding count
    count_lt zero h = absurd (omega arith)
    count_lt (suc n) h = elim (eq? o n) [
      | inl e ↦ (let a : f n ≡ true = cc in let b : g n ≡ false = cc in let k = count_le n in rw (a, b) (omega arith))
      | inr ne ↦ omega (arith, count_lt n (omega arith), one_le (g n) (f n) (less n))
    ]
