-- The next pair that can be made equal, with the classes that it gives.
use mathlib.Core.Path.{◌≡◌, sym, ◌∙◌, ap}
use mathlib.Core.Logic.{◌⊎◌, inl, inr}
use mathlib.Core.List.{List}
use Prim.Native.Nat.{ℕ, ◌+◌, ◌≤◌, ◌<◌}
use native.Mathlib.Omega.{arith}
use native.Mathlib.Decide.{dec_lt}
use Rattle.std.specs.Prelude.{Some, None}
use Rattle.model.specs.Case.{Table}
use Rattle.theory.specs.Cells.{class_at}
use Rattle.classes.specs.Kept.{Never}
use Rattle.classes.specs.Settle.{Unified}
use Rattle.classes.specs.Upward.{Raised}
use Rattle.granting.specs.declared.Place.{Place}
use Rattle.solving.specs.Pairs.{Pairs, place, NextPair, ChildOf}

-- ---- one pair

-- Classes that are closed upwards after they are joined.
pub unified_raised : (n : ℕ) (T : Table) (rep : List ℕ) (x y : ℕ) (u out : List ℕ) → Unified n T rep x y u → Raised n T u out → Unified n T rep x y out
unified_raised n T rep x y u out v r = record {
  solved = r.solved;
  sat = λ m mr. (λ s. (r.sat m mr).0 ((v.sat m mr).0 s), λ s. (v.sat m mr).1 ((r.sat m mr).1 s));
  most = omega (arith, r.most, v.most);
  fewer = λ ne. omega (arith, r.most, v.fewer ne);
}

-- ---- the pairs of a step

module _ (T : Table) (n : ℕ) (rep want bare : List ℕ) where
  -- No pair from the place `from` on up to the place `to` can be made equal.
  abbrev pub Failed : ℕ → ℕ → Type 0
  Failed from to = (c d : ℕ) → c < n → d < n → from ≤ place c d → place c d < to → Pairs T rep want bare c d → Never T (class_at rep) c d

  module _ (few : n ≤ 128) (from : ℕ) where
    module _ (c d : ℕ) (old : Failed from (place c d)) where
      pub child_none : NextPair T n rep want bare (place c d) None → ChildOf T n rep want bare from None
      child_none nothing = record {
        none = λ x y hx hy l p. elim (dec_lt (place x y) (place c d)) [
          | yes g ↦ old x y hx hy l g p
          | no g ↦ absurd (nothing (place x y + 1) x y hx hy (omega arith) (omega arith) p)
        ];
        solved = tt;
        fewer = tt;
        later = tt;
        passed = tt;
      }

      module _ (at : Place) (w : NextPair T n rep want bare (place c d) (Some at)) where
        -- A pair before the place after `at` failed, is none, or is that of `at`.
        before : (i j : ℕ) → i < n → j < n → from ≤ place i j → place i j < place at.c (at.d + 1) → Pairs T rep want bare i j → Never T (class_at rep) i j ⊎ ((i ≡ at.c) × (j ≡ at.d))
        before i j hi hj l u p = elim (dec_lt (place i j) (place c d)) [
          | yes g ↦ inl (old i j hi hj l g p)
          | no g ↦ elim (dec_lt (place i j) (place at.c at.d)) [
            | yes k ↦ absurd (w.4 i j hi hj (omega arith) k p)
            | no k ↦ inr (omega (arith, w.1), omega (arith, w.1))
          ]
        ]

        pub failed_next : Never T (class_at rep) at.c at.d → Failed from (place at.c (at.d + 1))
        failed_next v i j hi hj l b p = elim (before i j hi hj l b p) [
          | inl never ↦ never
          | inr (k, q) ↦ (λ m mr s z. v m mr s (sym (ap m k) ∙ (z ∙ ap m q)))
        ]

        pub child_found : {out : List ℕ} → Unified n T rep at.c at.d out → from ≤ place c d →
            ChildOf T n rep want bare from (Some (record { rep = out; after = record { c = at.c; d = at.d + 1 } }))
        child_found v lo = record {
          none = tt;
          solved = v.solved;
          fewer = v.fewer w.3.apart;
          later = (omega (arith, w.2), w.0, omega (arith, w.1));
          passed = λ i j hi hj l b p m mr s z. elim (before i j hi hj l b p) [
            | inl never ↦ absurd (never m mr s z)
            | inr (k, q) ↦ (v.sat m mr).0 (s, sym (ap m k) ∙ (z ∙ ap m q))
          ];
        }
