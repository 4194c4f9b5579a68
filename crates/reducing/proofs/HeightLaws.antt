-- Heights, from the first cell up: parts stand lower.
use mathlib.Core.Path.{◌≡◌, refl, sym, ◌∙◌, ap}
use mathlib.Core.List.{List}
use Prim.Native.Nat.{ℕ, ◌+◌, ◌≤◌, ◌<◌}
use native.Mathlib.Omega.{arith}
use native.Mathlib.Decide.{ℕ_discrete, dec_lt}
use lib.ListN.{length, get_or, set, length-set, length-replicate, replicate}
use lib.Seq.{get_or-set_same, get_or-set_other}
use Rattle.model.specs.Message.{Message, atom}
use Rattle.model.specs.Case.{Cell, AT, VA, ONE, TWO, Table, Part, in_arg, in_left, in_right, look, Ground}
use Rattle.model.specs.Reduce.{height}
use Rattle.model.specs.Stored.{table_in}
use Rattle.model.proofs.Rows.{zeros}
use Rattle.theory.specs.Cells.{TableWords}
use Rattle.reducing.specs.Bare.{height_at, Heights}

-- ---- of messages
height_same : (f g : ℕ → ℕ) (k : Cell) → ((d : ℕ) → Part k d → f d ≡ g d) → height_at f k ≡ height_at g k
height_same f g (AT n) h = refl
height_same f g VA h = refl
height_same f g (ONE t a) h = (let e = h a in_arg in omega arith)
height_same f g (TWO t l r) h = (let e = h l in_left in let e' = h r in_right in omega arith)

height_look : (m : ℕ → Message) (k : Cell) → height (look (atom 0) m k) ≡ height_at (λ d. height (m d)) k
unfolding height
height_look m (AT n) = refl
height_look m VA = refl
height_look m (ONE t a) = refl
height_look m (TWO t l r) = refl

height_below : (f : ℕ → ℕ) (i : ℕ) (k : Cell) → ((d : ℕ) → f d ≤ i) → height_at f k ≤ i + 1
height_below f i (AT n) h = omega arith
height_below f i VA h = omega arith
height_below f i (ONE t a) h = (let e = h a in omega arith)
height_below f i (TWO t l r) h = (let e = h l in let e' = h r in omega arith)

-- ---- the loop
-- The heights of the cells below i.
pub record Climbed (T : Table) (i : ℕ) (high : List ℕ) : Type 0 where
  pub size : length high ≡ 129
  pub low : (c : ℕ) → get_or high c 0 ≤ i
  pub later : (c : ℕ) → i ≤ c → get_or high c 0 ≡ 0
  pub exact : (m : ℕ → Message) → Ground T m → (c : ℕ) → c < i → get_or high c 0 ≡ height (m c)

pub climbed_start : (T : Table) → Climbed T 0 (replicate 129 0)
climbed_start T = record {
  size = length-replicate {A = ℕ} 129 0;
  low = λ c. (let z = zeros 129 c in omega arith);
  later = λ c h. zeros 129 c;
  exact = λ m r c h. absurd (omega arith);
}

module _ (n : ℕ) (words : List ℕ) (rows : TableWords n words) where
  abbrev T : Table
  T = table_in words

  pub climbed_next : (i : ℕ) (high : List ℕ) → Climbed T i high → i < 129 → (v : ℕ) → v ≡ height_at (λ d. get_or high d 0) (T i) → Climbed T (i + 1) (set high i v)
  climbed_next i high k h v e =
      let s = k.size in
      let lt : i < length high = omega arith in
      let b : v ≤ i + 1 = (let q = height_below (λ d. get_or high d 0) i (T i) k.low in omega arith) in
      record {
        size = length-set high i v ∙ s;
        low = λ c. elim (ℕ_discrete c i) [
          | yes q ↦ (let z = ap (λ c. get_or (set high i v) c 0) q ∙ get_or-set_same high i v 0 lt in omega arith)
          | no q ↦ (let z = get_or-set_other high i c v 0 q in let l = k.low c in omega arith)
        ];
        later = λ c le. get_or-set_other high i c v 0 (λ q. omega arith) ∙ k.later c (omega arith);
        exact = λ m r c l. elim (ℕ_discrete c i) [
          | yes q ↦ ap (λ c. get_or (set high i v) c 0) q ∙ (get_or-set_same high i v 0 lt ∙ (e ∙ (
              height_same (λ d. get_or high d 0) (λ d. height (m d)) (T i) (λ d p. k.exact m r d (rows.lower i d p)) ∙
              (sym (height_look m (T i)) ∙ (ap height (sym (r i)) ∙ ap (λ c. height (m c)) (sym q))))))
          | no q ↦ get_or-set_other high i c v 0 q ∙ k.exact m r c (omega arith)
        ];
      }

  -- Beyond the file's cells stands his own name.
  own_height : (m : ℕ → Message) → Ground T m → (c : ℕ) → n ≤ c → height (m c) ≡ 0
  own_height m r c h = ap height (r c) ∙ (height_look m (T c) ∙ ap (height_at (λ d. height (m d))) (rows.beyond c h))

  pub climbed_end : (high : List ℕ) → Climbed T n high → Heights T n high
  climbed_end high k = record {
    size = k.size;
    low = k.low;
    exact = λ m r c. elim (dec_lt c n) [ yes l ↦ k.exact m r c l | no ge ↦ (let le : n ≤ c = omega arith in k.later c le ∙ sym (own_height m r c le)) ];
  }
