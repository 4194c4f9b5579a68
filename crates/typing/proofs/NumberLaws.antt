-- A number, digit by digit.
use Rattle.std.specs.Prelude.{None, Ok, Err}
use mathlib.Core.Path.{◌≡◌, refl, sym, subst}
use mathlib.Core.Logic.{◌⊎◌, inl, inr}
use mathlib.Core.List.{List}
use Prim.Native.Nat.{ℕ, ◌+◌, ◌-◌, ◌*◌, ◌≤◌, ◌<◌}
use native.Mathlib.Omega.{arith}
use native.Mathlib.Decide.{dec_lt}
use lib.ListN.{length, get_or}
use Rattle.grammar.specs.Grammar.{decimal, nested}
use Rattle.grammar.specs.Reader.{Runs, Finds, wrong, number, NoDigit}
use Rattle.grammar.proofs.Phrases.{has_byte}
use Rattle.grammar.proofs.ReadNumbers.{Digitless, digitless_past, digitless_byte, digits_first, digits_more, number_misses, number_reads, number_stuck}
use Rattle.refusals.specs.declared.Refusal.{Refusal}
use Rattle.typing.specs.Readers.{wrong_at, DigitAt, NumberRead}

-- The digits of n stand from `at` to i, at whatever nesting.
abbrev pub Digits : List ℕ → ℕ → ℕ → ℕ → Type 0
Digits s at i n = (d : ℕ) → d ≤ 16 → Runs s at i (nested d (decimal n))

pub digit_not : (s : List ℕ) (i : ℕ) → DigitAt s i None → Digitless s i
digit_not s i n = elim (dec_lt i (length s)) [
  | no h ↦ digitless_past s i (omega arith)
  | yes h ↦ digitless_byte s i (out (n h))
]
  where
    out : ((48 ≤ get_or s i 0) × (get_or s i 0 ≤ 57) → ⊥) → NoDigit (get_or s i 0)
    out f = elim (dec_lt (get_or s i 0) 48) [
      | yes l ↦ inl l
      | no l ↦ elim (dec_lt 57 (get_or s i 0)) [ yes k ↦ inr k | no k ↦ absurd (f (omega arith, omega arith)) ]
    ]

module _ (s : List ℕ) (at bound : ℕ) where
  number_wrong : (p : ℕ) (r : Refusal) → r ≡ wrong_at p → ((d : ℕ) → d ≤ 16 → Finds (number bound d) s at (wrong p)) → NumberRead s at bound (Err r)
  number_wrong p r e f = subst (λ r. NumberRead s at bound (Err r)) (sym e) (refl, f)

  pub number_none : (r : Refusal) → r ≡ wrong_at at → Digitless s at → NumberRead s at bound (Err r)
  number_none r e m = number_wrong at r e (λ d h. number_misses s at d bound m)

  pub number_first : (c : ℕ) → (at < length s) × (get_or s at 0 ≡ 48 + c) × (c < 10) → Digits s at (at + 1) c
  number_first c (l, e, k) d h =
      let z : 48 + c - 48 ≡ c = omega arith in
      subst (λ n. Runs s at (at + 1) (nested d (decimal n))) z (digits_first s at d (48 + c) h (has_byte s at (48 + c) l e) (omega arith, omega arith))

  module _ (i n : ℕ) (r : Digits s at i n) where
    pub number_more : (c : ℕ) → 0 < n → (i < length s) × (get_or s i 0 ≡ 48 + c) × (c < 10) → Digits s at (i + 1) (n * 10 + c)
    number_more c p (l, e, k) d h =
        let z : n * 10 + (48 + c - 48) ≡ n * 10 + c = omega arith in
        subst (λ n. Runs s at (i + 1) (nested d (decimal n))) z (digits_more s at d i n (48 + c) h (r d h) p (has_byte s i (48 + c) l e) (omega arith, omega arith))

    pub number_done : n ≤ bound → Digitless s i → NumberRead s at bound (Ok (n, i))
    number_done h m = (h, λ d k. number_reads s at d bound i n h (r d k) m)

    pub number_ends : (r : Refusal) → r ≡ wrong_at i → (c : ℕ) → n ≤ bound → (i < length s) × (get_or s i 0 ≡ 48 + c) × (c < 10) → (n ≡ 0) ⊎ (bound < n * 10 + c) → NumberRead s at bound (Err r)
    number_ends q w c b (l, e, k) out = number_wrong i q w (λ d h. number_stuck s at d bound i n (48 + c) b (r d h) (has_byte s i (48 + c) l e) (omega arith, omega arith) (more out))
      where
        more : (n ≡ 0) ⊎ (bound < n * 10 + c) → (n ≡ 0) ⊎ (bound < n * 10 + (48 + c - 48))
        more (inl z) = inl z
        more (inr z) = inr (omega arith)
