-- The sweep that grants the keys that may be equal to a cell that is seen.
use mathlib.Core.Path.{◌≡◌, subst}
use mathlib.Core.Bool.{Bool, true, true≢false}
use mathlib.Core.List.{List}
use Prim.Native.Nat.{ℕ, ◌+◌, ◌≤◌, ◌<◌}
use native.Mathlib.Omega.{arith}
use lib.ListN.{length, set, get_or}
use borrow.Author.Count.{below_more}
use Rattle.model.specs.Case.{Table}
use Rattle.theory.specs.Cells.{On}
use Rattle.knowledge.specs.Knowledge.{MarkRow}
use Rattle.knowledge.proofs.Grow.{grown_mark}
use Rattle.granting.specs.Meets.{Alone, Earns, Granting}
use Rattle.std.specs.List.{range_with_len, AllWithin}
use Rattle.std.proofs.lemmas.List.FromFn.{length-range_with_len, get_or-range_with_len}

-- What holds of each item of `0..n` holds below n.
pub within_range : (P : ℕ → Type 0) {n : ℕ} → AllWithin P (range_with_len 0 n) 0 (length (range_with_len 0 n)) → (d : ℕ) → d < n → P d
within_range P {n} w d h =
    let e : get_or (range_with_len 0 n) d 0 ≡ d = omega (arith, get_or-range_with_len 0 n d 0 h) in
    subst P e (w d 0 (omega arith) (omega (arith, length-range_with_len 0 n)))

module _ {T : Table} {n : ℕ} {rep keys seens m : List ℕ} where
  module _ {r : List ℕ} {ch : Bool} {c : ℕ} (x : Granting T n rep keys seens m r ch c) where
    pub granting_mark : c ≤ 128 → MarkRow rep keys → On keys c × (On r c → ⊥) → Granting T n rep keys seens m (set r c 1) true (c + 1)
    granting_mark h k (key, new) = record { grown = grown_mark x.grown c h (k.stand c key) new; still = λ i. absurd (true≢false i) }

    granting_skip : (Earns T n rep keys seens r c → ⊥) → Granting T n rep keys seens m r ch (c + 1)
    granting_skip none = record { grown = x.grown; still = λ i. below_more (λ d. Earns T n rep keys seens r d → ⊥) c (x.still i) none }

    pub granting_alone : Alone T rep seens c n → Granting T n rep keys seens m r ch (c + 1)
    granting_alone alone = granting_skip (λ w. alone w.cell w.below w.whole w.may)

    pub granting_had : (On keys c × (On r c → ⊥) → ⊥) → Granting T n rep keys seens m r ch (c + 1)
    granting_had none = granting_skip (λ w. none (w.key, w.new))
