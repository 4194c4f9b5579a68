-- Line and column, byte by byte.
use mathlib.Core.Path.{◌≡◌, refl, ◌∙◌, ap, sym}
use mathlib.Core.Bool.{Bool, true, false, cond}
use mathlib.Core.List.{List, [], ◌∷◌, ◌++◌}
use Prim.Native.Nat.{ℕ, ◌+◌, ◌<◌, ◌≤◌}
use native.Mathlib.Omega.{arith}
use native.Mathlib.Numerals.{add-one}
use lib.Dec.{eqb}
use lib.ListN.{length, get_or, take}
use lib.Seq.{take-suc, take_all}
use Rattle.enter.specs.Refusal.{feeds, since, line_of, column_of}
use Rattle.enter.specs.declared.refusal.Spot.{Spot}

-- ---- one byte more

feeds_behind : (bs : List ℕ) (b : ℕ) → feeds (bs ++ (b ∷ [])) ≡ feeds bs + cond (eqb b 10) 1 0
unfolding feeds
feeds_behind [] b = omega arith
feeds_behind (a ∷ bs) b = let i = feeds_behind bs b in omega arith

since_behind : (n : ℕ) (bs : List ℕ) (b : ℕ) → since n (bs ++ (b ∷ [])) ≡ cond (eqb b 10) 0 (since n bs + 1)
unfolding since
since_behind n [] b = refl
since_behind n (a ∷ bs) b = since_behind (cond (eqb a 10) 0 (n + 1)) bs b

one_more : (t : Bool) (s : ℕ) → 1 + cond t 0 (s + 1) ≡ cond t 1 (1 + s + 1)
one_more true s = omega arith
one_more false s = omega arith

module _ (text : List ℕ) (i : ℕ) (h : i < length text) where
  line_next : line_of text (i + 1) ≡ line_of text i + cond (eqb (get_or text i 0) 10) 1 0
  line_next = rw (add-one i, take-suc text i 0 h) (let z = feeds_behind (take i text) (get_or text i 0) in omega arith)

  column_next : column_of text (i + 1) ≡ cond (eqb (get_or text i 0) 10) 1 (column_of text i + 1)
  column_next =
      rw (add-one i, take-suc text i 0 h)
      (ap (λ (s : ℕ). 1 + s) (since_behind 0 (take i text) (get_or text i 0)) ∙ one_more (eqb (get_or text i 0) 10) (since 0 (take i text)))

-- ---- the loop

-- The spot of the byte i, at or before the place.
pub record Reached (text : List ℕ) (place i : ℕ) (spot : Spot) : Type 0 where
  pub line : spot.line ≡ line_of text i
  pub column : spot.column ≡ column_of text i
  pub line_low : spot.line ≤ i + 1
  pub column_low : spot.column ≤ i + 1
  pub before : i ≤ place
  pub inside : i ≤ length text
  pub few : length text ≤ 65536

line_grows : (t : Bool) (l i : ℕ) → l ≤ i + 1 → l + cond t 1 0 ≤ i + 1 + 1
line_grows true l i h = omega arith
line_grows false l i h = omega arith

column_grows : (t : Bool) (k i : ℕ) → k ≤ i + 1 → cond t 1 (k + 1) ≤ i + 1 + 1
column_grows true k i h = omega arith
column_grows false k i h = omega arith

pub reached_first : (text : List ℕ) (place : ℕ) (spot : Spot) → spot.line ≡ 1 → spot.column ≡ 1 → length text ≤ 65536 → Reached text place 0 spot
unfolding feeds since
reached_first text place spot l k h = record { line = l; column = k; line_low = omega arith; column_low = omega arith; before = omega arith; inside = omega arith; few = h }

pub reached_next : (text : List ℕ) (place i : ℕ) (spot next : Spot) → Reached text place i spot → i < length text → (i ≡ place → ⊥) →
    next.line ≡ spot.line + cond (eqb (get_or text i 0) 10) 1 0 → next.column ≡ cond (eqb (get_or text i 0) 10) 1 (spot.column + 1) → Reached text place (i + 1) next
reached_next text place i spot next w h s l k =
    let t = eqb (get_or text i 0) 10 in
    record {
      line = l ∙ (ap (λ x. x + cond t 1 0) w.line ∙ sym (line_next text i h));
      column = k ∙ (ap (λ x. cond t 1 (x + 1)) w.column ∙ sym (column_next text i h));
      line_low = (let z = line_grows t spot.line i w.line_low in omega arith);
      column_low = (let z = column_grows t spot.column i w.column_low in omega arith);
      before = (let z = w.before in omega arith);
      inside = omega arith;
      few = w.few;
    }

pub reached_place : (text : List ℕ) (place i : ℕ) (spot : Spot) → Reached text place i spot → i ≡ place → (spot.line ≡ line_of text place) × (spot.column ≡ column_of text place)
reached_place text place i spot w e = (w.line ∙ ap (line_of text) e, w.column ∙ ap (column_of text) e)

pub reached_end : (text : List ℕ) (place i : ℕ) (spot : Spot) → Reached text place i spot → length text ≤ i → (spot.line ≡ line_of text place) × (spot.column ≡ column_of text place)
reached_end text place i spot w h =
    let b = w.before in
    let z : take i text ≡ take place text = take_all i text h ∙ sym (take_all place text (omega arith)) in
    (w.line ∙ ap (λ (l : List ℕ). 1 + feeds l) z, w.column ∙ ap (λ (l : List ℕ). 1 + since 0 l) z)
