-- Text behind text in a buffer, and a number's digits.
use mathlib.Core.Path.{◌≡◌, refl, sym, ◌∙◌, ap, subst}
use mathlib.Core.List.{List, [], ◌∷◌, ◌++◌}
use Prim.Native.Nat.{ℕ, zero, suc, ◌+◌, ◌-◌, ◌*◌, ◌/◌, ◌%◌, ◌<◌, ◌≤◌}
use native.Mathlib.Omega.{arith}
use native.Mathlib.Decide.{dec_lt}
use lib.ListN.{length, take, drop, length-append}
use Rattle.std.proofs.Common.{append_assoc}
use lib.Seq.{sets, sets-eq, length-sets, take_at, drop-drop}
use borrow.Rule.Slice.PartMut.{post_of}
use Rattle.model.proofs.Listed.{sets_append, sets_front}
use Rattle.grammar.specs.Grammar.{decimal}
use Rattle.grammar.proofs.Numbers.{decimal_one, decimal_more}
use Rattle.lines.specs.Put.{Put}

-- ---- text behind text

pub put_join : {text more before between after : List ℕ} {at r r' : ℕ} → Put text before at between r → Put more between r after r' → Put (text ++ more) before at after r'
put_join {text} {more} {before} {between} {at = at} {r = r} p q =
    let e = length-append text more in
    let k : length between ≡ length before = ap length p.bytes ∙ length-sets before at text in
    let i = p.end in
    let j = q.end in
    let h = q.room in
    record {
      bytes = q.bytes ∙ (ap (λ o. sets o r more) p.bytes ∙ sets_append text before more at r p.end);
      end = omega arith;
      room = omega arith;
    }

-- It ends within the buffer, whose length stays.
pub put_kept : {text before after : List ℕ} {at r : ℕ} → Put text before at after r → length after ≡ length before
put_kept {text} {before} {at = at} p = ap length p.bytes ∙ length-sets before at text

pub put_inside : {text before after : List ℕ} {at r : ℕ} → Put text before at after r → r ≤ length after
put_inside p = let k = put_kept p in let h = p.room in omega arith

-- What was put at the front.
pub put_front : {text before after : List ℕ} {r : ℕ} → Put text before 0 after r → take r after ≡ text
put_front {text} {before} {r = r} p =
    let e = p.end in
    let h = p.room in
    ap (take r) (p.bytes ∙ sets_front text before (omega arith)) ∙ take_at text (drop (length text) before) r (omega arith)

-- A text written over the bytes from `at` on.
pub put_over : (text before : List ℕ) (at : ℕ) → at + length text ≤ length before → Put text before at (take at before ++ (text ++ post_of at (at + length text - at) before)) (at + length text)
put_over text before at h =
    let e : at + (at + length text - at) ≡ at + length text = omega arith in
    record { bytes = ap (λ l. take at before ++ (text ++ l)) (drop-drop (at + length text - at) at before) ∙ (ap (λ k. take at before ++ (text ++ drop k before)) e ∙ (sym (append_assoc (take at before) text (drop (at + length text) before)) ∙ sym (sets-eq text before at h))); end = refl; room = h }

-- ---- digits

-- The last digit stands behind those of the tenth.
pub decimal_last : (n : ℕ) → 10 ≤ n → decimal n ≡ decimal (n / 10) ++ ((48 + n % 10) ∷ [])
decimal_last n h = let z : n ≡ n / 10 * 10 + n % 10 = omega arith in ap decimal z ∙ decimal_more (n / 10) (n % 10) (omega arith) (omega arith)

pub one_room : (n : ℕ) → n < 10 → length (decimal n) ≡ 1
one_room n h = ap length (decimal_one n h)

pub last_room : (n : ℕ) → 10 ≤ n → length (decimal n) ≡ length (decimal (n / 10)) + 1
last_room n h = ap length (decimal_last n h) ∙ length-append (decimal (n / 10)) ((48 + n % 10) ∷ [])

-- Ten, k times multiplied by ten.
tens : ℕ → ℕ
tens zero = 10
tens (suc k) = tens k * 10

decimal_short : (k n : ℕ) → n < tens k → length (decimal n) ≤ suc k
unfolding tens
decimal_short zero n h = rw (decimal_one n h) (omega arith)
decimal_short (suc k) n h = elim (dec_lt n 10) [
  | yes l ↦ rw (decimal_one n l) (omega arith)
  | no g ↦ (let i = decimal_short k (n / 10) (omega arith) in let e = last_room n (omega arith) in omega arith)
]

pub three_digits : (n : ℕ) → n < 1000 → length (decimal n) ≤ 3
unfolding tens
three_digits n h = decimal_short 2 n h

pub twenty_digits : (n : ℕ) → n < 18446744073709551616 → length (decimal n) ≤ 20
unfolding tens
twenty_digits n h = let e : tens 19 ≡ 100000000000000000000 = refl in decimal_short 19 n (omega arith)

module _ {before after : List ℕ} {at r : ℕ} (n : ℕ) where
  pub put_one : n < 10 → Put ((48 + n) ∷ []) before at after r → Put (decimal n) before at after r
  put_one h p = subst (λ t. Put t before at after r) (sym (decimal_one n h)) p

  pub put_last : {between : List ℕ} {m : ℕ} → 10 ≤ n → Put (decimal (n / 10)) before at between m → Put ((48 + n % 10) ∷ []) between m after r → Put (decimal n) before at after r
  put_last h p q = subst (λ t. Put t before at after r) (sym (decimal_last n h)) (put_join p q)
