-- What a reader of numbers finds, case by case. The digits read so far are those of a number n; a further digit is taken, or is at fault, or there is none.
use mathlib.Core.Path.{◌≡◌, refl, sym, ◌∙◌, ap, subst}
use mathlib.Core.Logic.{◌⊎◌, inl, inr}
use mathlib.Core.List.{List, [], ◌∷◌, ◌++◌, append_assoc, append-nil, head-eq_of_cons-eq, tail-eq_of_cons-eq}
use Prim.Native.Nat.{ℕ, ◌+◌, ◌-◌, ◌*◌, ◌≤◌, ◌<◌}
use native.Mathlib.Omega.{arith}
use lib.ListN.{length, get_or, drop}
use lib.Seq.{get_or-drop}
use Rattle.model.proofs.Read.{clash}
use Rattle.grammar.specs.Grammar.{decimal, Text, bytes_of, nested}
use Rattle.grammar.specs.Reader.{NoDigit, number, Runs, read, wrong, Fails, Finds, reads, fails}
use Rattle.grammar.proofs.Numbers.{Digit, Digits, LeadsWell, decimal_one, decimal_more, digits_snoc, decimal_digits, decimal_leads, decimal_begins}
use Rattle.grammar.proofs.Apart.{no_digit, number_apart}
use Rattle.grammar.proofs.Phrases.{bytes_nested, nested_append, closed_by, runs_none, runs_append, runs_byte, Unique, Begins, Has, misses_past}

pub number_unique : (bound d : ℕ) → Unique (number bound d)
number_unique bound d a a' x y X Y h k = elim (number_apart a.0 a'.0 d x y X Y h k) [ inl e ↦ inl (ap (λ n. nested d (decimal n)) e) | inr p ↦ inr p ]

pub number_begins : (bound d : ℕ) → Begins (number bound d)
number_begins bound d n = go (decimal n.0) (decimal_leads n.0)
  where
    go : (ds : List ℕ) → LeadsWell n.0 ds → (y : ℕ × ℕ) × (Y : Text) × (nested d ds ≡ y ∷ Y)
    go [] h = absurd h
    go (c ∷ ds) h = ((c, d), nested d ds, refl)

-- No digit stands at i.
abbrev pub Digitless : List ℕ → ℕ → Type 0
Digitless s i = (b : ℕ) (t : List ℕ) → drop i s ≡ b ∷ t → NoDigit b

pub digitless_past : (s : List ℕ) (i : ℕ) → length s ≤ i → Digitless s i
digitless_past s i h b t e = absurd (misses_past s i b h b t e refl)

pub digitless_byte : (s : List ℕ) (i : ℕ) → NoDigit (get_or s i 0) → Digitless s i
digitless_byte s i n b t e =
    let z : i + 0 ≡ i = omega arith in
    subst NoDigit (ap (λ x. get_or s x 0) (sym z) ∙ (sym (get_or-drop i s 0 0) ∙ ap (λ l. get_or l 0 0) e)) n

-- Digits of a text are those of a number, and more, if they stand at its front.
digits_within : (ds es : List ℕ) (x : ℕ) (beh rest : List ℕ) → Digits es → NoDigit x → ds ++ (x ∷ beh) ≡ es ++ rest → (r : List ℕ) × (ds ≡ es ++ r)
digits_within ds [] x beh rest i n e = (ds, refl)
digits_within [] (c ∷ es) x beh rest (i, is) n e = absurd (no_digit n i (head-eq_of_cons-eq e))
digits_within (b ∷ ds) (c ∷ es) x beh rest (i, is) n e =
    let (r, q) = digits_within ds es x beh rest is n (tail-eq_of_cons-eq e) in
    let k : b ≡ c = head-eq_of_cons-eq e in
    (r, cc)

module _ (s : List ℕ) (i d : ℕ) where
  pub digits_first : (c : ℕ) → d ≤ 16 → Has s i c → Digit c → Runs s i (i + 1) (nested d (decimal (c - 48)))
  digits_first c h e (l, u) = subst (Runs s i (i + 1)) (sym text) (runs_byte s i c d e h)
    where
      text : nested d (decimal (c - 48)) ≡ (c, d) ∷ []
      text = ap (nested d) (decimal_one (c - 48) (omega arith)) ∙ (let z : 48 + (c - 48) ≡ c = omega arith in ap (λ x. (x, d) ∷ []) z)

  pub digits_more : (j n c : ℕ) → d ≤ 16 → Runs s i j (nested d (decimal n)) → 0 < n → Has s j c → Digit c → Runs s i (j + 1) (nested d (decimal (n * 10 + (c - 48))))
  digits_more j n c h r p e (l, u) = subst (Runs s i (j + 1)) (sym text) (runs_append s i j (j + 1) (nested d (decimal n)) ((c, d) ∷ []) r (runs_byte s j c d e h))
    where
      text : nested d (decimal (n * 10 + (c - 48))) ≡ nested d (decimal n) ++ ((c, d) ∷ [])
      text =
          let z : 48 + (c - 48) ≡ c = omega arith in
          ap (nested d) (decimal_more n (c - 48) p (omega arith)) ∙ (nested_append d (decimal n) ((48 + (c - 48)) ∷ []) ∙ ap (λ x. nested d (decimal n) ++ ((x, d) ∷ [])) z)

  module _ (bound : ℕ) where
    pub number_misses : Digitless s i → Finds (number bound d) s i (wrong i)
    number_misses m =
        fails i (0, omega arith) [] (nested d (decimal 0)) refl (runs_none s i) (λ e n. let (y, Y, t) = number_begins bound d (0, omega arith) in clash (cc)) (λ b t e. none b (m b t e))
      where
        none : (b : ℕ) → NoDigit b → Fails (number bound d) (b ∷ [])
        none b n (m, h) x beh rest k q = go (decimal m) (decimal_leads m) (ap (λ l. l ++ (x ∷ beh)) (sym (bytes_nested d (decimal m))) ∙ q)
          where
            go : (ds : List ℕ) → LeadsWell m ds → ds ++ (x ∷ beh) ≡ b ∷ rest → ⊥
            go [] l e = l
            go (c ∷ ds) (l, i) e = no_digit n i (sym (head-eq_of_cons-eq e))

    pub number_reads : (j n : ℕ) (h : n ≤ bound) → Runs s i j (nested d (decimal n)) → Digitless s j → Finds (number bound d) s i (read (n, h) j)
    number_reads j n h r m = reads (n, h) j r (closed_by (number bound d) (n, h) (drop j s) m)

    -- One more digit, and the number would have a leading zero or be above the bound.
    pub number_stuck : (j n c : ℕ) → n ≤ bound → Runs s i j (nested d (decimal n)) → Has s j c → Digit c → (n ≡ 0) ⊎ (bound < n * 10 + (c - 48)) → Finds (number bound d) s i (wrong j)
    number_stuck j n c h r e g out =
        fails j (n, h) (nested d (decimal n)) [] (sym (append-nil (nested d (decimal n)))) r (λ z q. clash (cc))
        (λ b t z. let k : b ≡ c = head-eq_of_cons-eq (sym z ∙ e) in rw k none)
      where
        none : Fails (number bound d) (bytes_of (nested d (decimal n)) ++ (c ∷ []))
        none (m, k) x beh rest y q =
            let w : decimal m ++ (x ∷ beh) ≡ decimal n ++ (c ∷ []) ++ rest =
            ap (λ l. l ++ (x ∷ beh)) (sym (bytes_nested d (decimal m))) ∙ (q ∙ ap (λ l. l ++ (c ∷ []) ++ rest) (bytes_nested d (decimal n))) in
            let (t, v) = digits_within (decimal m) (decimal n ++ (c ∷ [])) x beh rest (digits_snoc (decimal n) c (decimal_digits n) g) y w in
            let (not-zero, big) = decimal_begins n m c t (v ∙ append_assoc (decimal n) (c ∷ []) t) in
            elim out [ inl z ↦ not-zero z | inr z ↦ absurd (omega arith) ]
