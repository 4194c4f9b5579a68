-- Numbers in decimal: digit by digit, what they are worth, when digits are no number.
use mathlib.Core.Path.{◌≡◌, refl, sym, ◌∙◌, ap, subst}
use mathlib.Core.List.{List, [], ◌∷◌, ◌++◌}
use Prim.Native.Nat.{ℕ, zero, suc, ◌+◌, ◌-◌, ◌*◌, ◌/◌, ◌%◌, ◌≤◌, ◌<◌}
use native.Mathlib.Nat.{div-add-mod'}
use native.Mathlib.Omega.{arith}
use native.Mathlib.Decide.{dec_lt}
use borrow.Author.Tests.{lt-ltb, le-ltb}
use Rattle.model.proofs.Read.{strong, clash}
use Rattle.grammar.specs.Grammar.{digits, decimal}

digits_low : (k n : ℕ) → n < 10 → digits (suc k) n ≡ (48 + n) ∷ []
unfolding digits
digits_low k n h = rw (lt-ltb n 10 h) refl

digits_high : (k n : ℕ) → 10 ≤ n → digits (suc k) n ≡ digits k (n / 10) ++ ((48 + n % 10) ∷ [])
unfolding digits
digits_high k n h = rw (le-ltb n 10 h) refl

-- Enough digits are enough.
digits_enough : (k k' n : ℕ) → n < k → n < k' → digits k n ≡ digits k' n
digits_enough zero k' n h h' = absurd (omega arith)
digits_enough (suc k) zero n h h' = absurd (omega arith)
digits_enough (suc k) (suc k') n h h' = elim (dec_lt n 10) [
  | yes l ↦ digits_low k n l ∙ sym (digits_low k' n l)
  | no l ↦
      digits_high k n (omega arith)
      ∙ (ap (λ ds. ds ++ ((48 + n % 10) ∷ [])) (digits_enough k k' (n / 10) (omega arith) (omega arith)) ∙ sym (digits_high k' n (omega arith)))
]

pub decimal_one : (c : ℕ) → c < 10 → decimal c ≡ (48 + c) ∷ []
decimal_one c h = digits_low c c h

-- One more digit behind a number that is not 0.
pub decimal_more : (n c : ℕ) → 0 < n → c < 10 → decimal (n * 10 + c) ≡ decimal n ++ ((48 + c) ∷ [])
decimal_more n c p h =
    let q : (n * 10 + c) / 10 ≡ n = omega arith in
    let r : (n * 10 + c) % 10 ≡ c = omega arith in
    digits_high (n * 10 + c) (n * 10 + c) (omega arith)
    ∙ (ap (λ x. digits (n * 10 + c) x ++ ((48 + (n * 10 + c) % 10) ∷ [])) q
    ∙ (ap (λ x. digits (n * 10 + c) n ++ ((48 + x) ∷ [])) r ∙ ap (λ ds. ds ++ ((48 + c) ∷ [])) (digits_enough (n * 10 + c) (suc n) n (omega arith) (omega arith))))

-- What holds of one digit, and of a number with one more digit, holds of every number.
decimal_every : (P : ℕ → List ℕ → Type 0) → ((c : ℕ) → c < 10 → P c ((48 + c) ∷ [])) →
    ((n c : ℕ) → 0 < n → c < 10 → P n (decimal n) → P (n * 10 + c) (decimal n ++ ((48 + c) ∷ []))) → (n : ℕ) → P n (decimal n)
decimal_every P one more = strong (λ n. P n (decimal n)) step
  where
    step : (n : ℕ) → ((m : ℕ) → m < n → P m (decimal m)) → P n (decimal n)
    step n below = elim (dec_lt n 10) [
      | yes l ↦ subst (P n) (sym (decimal_one n l)) (one n l)
      | no l ↦
          (let e : n / 10 * 10 + n % 10 ≡ n = div-add-mod' n 10 in
          subst (λ x. P x (decimal x)) e
          (subst (P (n / 10 * 10 + n % 10)) (sym (decimal_more (n / 10) (n % 10) (omega arith) (omega arith)))
          (more (n / 10) (n % 10) (omega arith) (omega arith) (below (n / 10) (omega arith)))))
    ]

-- ---- digits, what they are worth, the first one

abbrev pub Digit : ℕ → Type 0
Digit c = (48 ≤ c) × (c ≤ 57)

abbrev pub Digits : List ℕ → Type 0
Digits [] = Unit
Digits (c ∷ cs) = Digit c × Digits cs

pub digits_snoc : (ds : List ℕ) (c : ℕ) → Digits ds → Digit c → Digits (ds ++ (c ∷ []))
digits_snoc [] c h i = (i, tt)
digits_snoc (d ∷ ds) c (h, hs) i = (h, digits_snoc ds c hs i)

pub decimal_digits : (n : ℕ) → Digits (decimal n)
decimal_digits = decimal_every (λ n ds. Digits ds) (λ c h. ((omega arith, omega arith), tt)) (λ n c p h ds. digits_snoc (decimal n) (48 + c) ds (omega arith, omega arith))

-- What digits are worth behind a number a.
abbrev worth : ℕ → List ℕ → ℕ
worth a [] = a
worth a (c ∷ cs) = worth (a * 10 + (c - 48)) cs

worth_append : (a : ℕ) (ds es : List ℕ) → worth a (ds ++ es) ≡ worth (worth a ds) es
worth_append a [] es = refl
worth_append a (c ∷ ds) es = worth_append (a * 10 + (c - 48)) ds es

worth_grows : (a : ℕ) (ds : List ℕ) → a ≤ worth a ds
worth_grows a [] = omega arith
worth_grows a (c ∷ ds) = (let h = worth_grows (a * 10 + (c - 48)) ds in omega arith)

decimal_worth : (n : ℕ) → worth 0 (decimal n) ≡ n
decimal_worth = decimal_every (λ n ds. worth 0 ds ≡ n) (λ c h. omega arith)
    (λ n c p h e. worth_append 0 (decimal n) ((48 + c) ∷ []) ∙ (ap (λ x. x * 10 + (48 + c - 48)) e ∙ (let z : n * 10 + (48 + c - 48) ≡ n * 10 + c = omega arith in z)))

pub decimal_one_number : (n m : ℕ) → decimal n ≡ decimal m → n ≡ m
decimal_one_number n m e = sym (decimal_worth n) ∙ (ap (worth 0) e ∙ decimal_worth m)

-- Digits that begin with a 0 are those of 0.
abbrev pub LeadsWell : ℕ → List ℕ → Type 0
LeadsWell n [] = ⊥
LeadsWell n (c ∷ cs) = (c ≡ 48 → (n ≡ 0) × (cs ≡ [])) × Digit c

leads_more : (n c : ℕ) (ds : List ℕ) → 0 < n → LeadsWell n ds → LeadsWell (n * 10 + c) (ds ++ ((48 + c) ∷ []))
leads_more n c [] p h = absurd h
leads_more n c (b ∷ ds) p (h, i) = (λ e. absurd (let z = (h e).0 in omega arith), i)

pub decimal_leads : (n : ℕ) → LeadsWell n (decimal n)
decimal_leads = decimal_every LeadsWell (λ c h. (λ e. (omega arith, refl), (omega arith, omega arith))) (λ n c p h i. leads_more n c (decimal n) p i)

-- A number that begins with the digits of n and one digit more: n is not 0, and the number is at least n with that digit.
pub decimal_begins : (n m c : ℕ) (rest : List ℕ) → decimal m ≡ decimal n ++ (c ∷ rest) → (n ≡ 0 → ⊥) × (n * 10 + (c - 48) ≤ m)
decimal_begins n m c rest e = (zeros, big)
  where
    big : n * 10 + (c - 48) ≤ m
    big =
        let a : worth 0 (decimal m) ≡ worth (worth 0 (decimal n)) (c ∷ rest) = ap (worth 0) e ∙ worth_append 0 (decimal n) (c ∷ rest) in
        let b : worth (worth 0 (decimal n)) (c ∷ rest) ≡ worth (n * 10 + (c - 48)) rest = ap (λ x. worth x (c ∷ rest)) (decimal_worth n) in
        let h = worth_grows (n * 10 + (c - 48)) rest in
        let g = decimal_worth m in
        omega arith

    lead : (ds : List ℕ) → LeadsWell m ds → ds ≡ 48 ∷ c ∷ rest → ⊥
    lead [] l i = l
    lead (b ∷ ds) (l, k) i =
        let x : b ≡ 48 = cc in
        let y : ds ≡ c ∷ rest = cc in
        let z : ds ≡ [] = (l x).1 in
        clash (cc)

    zeros : n ≡ 0 → ⊥
    zeros z = lead (decimal m) (decimal_leads m) (e ∙ (ap (λ x. decimal x ++ (c ∷ rest)) z ∙ ap (λ ds. ds ++ (c ∷ rest)) (decimal_one 0 (omega arith))))
