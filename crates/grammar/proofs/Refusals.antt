-- Worked examples of the first byte at fault: numbers at their bounds, bytes between tokens, and the nesting of 16.
use mathlib.Core.Path.{◌≡◌, refl, subst}
use mathlib.Core.Logic.{inl, inr}
use mathlib.Core.List.{List, [], ◌∷◌, ◌++◌}
use Prim.Native.Nat.{ℕ, zero, suc, ◌+◌}
use native.Mathlib.Omega.{arith}
use borrow.Author.Tests.{eqb-false}
use Rattle.grammar.specs.Grammar.{digits, nested, Message, Messages, Fault}
use Rattle.grammar.specs.Reader.{message, list, line, Runs, wrong, Finds}
use Rattle.grammar.proofs.Phrases.{Has, misses_other}
use Rattle.grammar.proofs.ReadNumbers.{digitless_byte, number_reads, number_stuck}
use Rattle.grammar.proofs.ReadMessages.{atom_reads, atom_wrong, apply_number, message_none, group_wrong}
use Rattle.grammar.proofs.ReadLists.{list_wrong, list_last}
use Rattle.grammar.proofs.ReadLines.{Learn, Make, word_bytes, word_reads, line_wrong, line_open, fault_wrong}

module _ (s : List ℕ) where
  -- Positions from the front of the text.
  at_wrong : (j : ℕ) → Finds line s 0 (wrong j) → Fault s 11 j
  at_wrong j f = let (k, e, g) = fault_wrong s 0 j f in (let z : k ≡ j = omega arith in subst (Fault s 11) z g)

  -- A line whose list is at fault behind its word.
  learn_wrong : (j : ℕ) → Runs s 0 6 (nested 0 (word_bytes Learn)) → Finds (list 0) s 6 (wrong j) → Has s 0 108 → Fault s 11 j
  learn_wrong j r f h = at_wrong j (line_wrong s 0 Learn h 6 (word_reads s 0 (word_bytes Learn) r) j f)

  make_wrong : (j : ℕ) → Runs s 0 5 (nested 0 (word_bytes Make)) → Finds (list 0) s 5 (wrong j) → Has s 0 109 → Fault s 11 j
  make_wrong j r f h = at_wrong j (line_wrong s 0 Make h 5 (word_reads s 0 (word_bytes Make) r) j f)

-- learn a01: 11 at the 1
leading_zero : Fault (word_bytes Learn ++ (97 ∷ 48 ∷ 49 ∷ [])) 11 8
unfolding digits
leading_zero =
    learn_wrong s 8 (record { bytes = refl; end = refl; shallow = omega arith }) (list_wrong s 0 6 8 (atom_wrong s 6 0 (omega arith) 8 refl
    (number_stuck s 7 0 65535 8 0 49 (omega arith) (record { bytes = refl; end = refl; shallow = omega arith }) refl (omega arith, omega arith) (inl refl)))) refl
  where
    s : List ℕ
    s = word_bytes Learn ++ (97 ∷ 48 ∷ 49 ∷ [])

-- learn a65536: 11 at the last 6
large_name : Fault (word_bytes Learn ++ (97 ∷ 54 ∷ 53 ∷ 53 ∷ 51 ∷ 54 ∷ [])) 11 11
unfolding digits
large_name =
    learn_wrong s 11 (record { bytes = refl; end = refl; shallow = omega arith }) (list_wrong s 0 6 11 (atom_wrong s 6 0 (omega arith) 11 refl
    (number_stuck s 7 0 65535 11 6553 54 (omega arith) (record { bytes = refl; end = refl; shallow = omega arith }) refl (omega arith, omega arith) (inr (omega arith))))) refl
  where
    s : List ℕ
    s = word_bytes Learn ++ (97 ∷ 54 ∷ 53 ∷ 53 ∷ 51 ∷ 54 ∷ [])

-- make f256(: 11 at the 6
large_function : Fault (word_bytes Make ++ (102 ∷ 50 ∷ 53 ∷ 54 ∷ 40 ∷ [])) 11 8
unfolding digits
large_function =
    make_wrong s 8 (record { bytes = refl; end = refl; shallow = omega arith }) (list_wrong s 0 5 8 (apply_number s 5 0 (omega arith) refl 8
    (number_stuck s 6 0 255 8 25 54 (omega arith) (record { bytes = refl; end = refl; shallow = omega arith }) refl (omega arith, omega arith) (inr (omega arith))))) refl
  where
    s : List ℕ
    s = word_bytes Make ++ (102 ∷ 50 ∷ 53 ∷ 54 ∷ 40 ∷ [])

-- make a1, a space and a line feed: 11 at the space
space_behind : Fault (word_bytes Make ++ (97 ∷ 49 ∷ 32 ∷ 10 ∷ [])) 11 7
unfolding digits
space_behind =
    at_wrong s 7 (line_open s 0 Make refl 5 (word_reads s 0 (word_bytes Make) (record { bytes = refl; end = refl; shallow = omega arith })) 7 (Messages.last (Message.atom 1 (omega arith)))
    (list_last s 0 5 7 (Message.atom 1 (omega arith)) (atom_reads s 5 0 (omega arith) 1 (omega arith) 7 refl
    (number_reads s 6 0 65535 7 1 (omega arith) (record { bytes = refl; end = refl; shallow = omega arith }) (digitless_byte s 7 (inl (omega arith))))) (misses_other s 7 44 (eqb-false 32 44 refl)))
    (misses_other s 7 10 (eqb-false 32 10 refl)))
  where
    s : List ℕ
    s = word_bytes Make ++ (97 ∷ 49 ∷ 32 ∷ 10 ∷ [])

-- ---- nesting

-- So many round brackets open from i on.
abbrev Opened : List ℕ → ℕ → ℕ → Type 0
Opened s i zero = Unit
Opened s i (suc n) = Has s i 40 × Opened s (i + 1) n

-- What is found behind brackets that bring the nesting to 17 is found of the whole.
opened_wrong : (s : List ℕ) (n d i j : ℕ) → d + n ≡ 17 → Opened s i n → j ≡ i + n → Finds (message 17) s j (wrong j) → Finds (message d) s i (wrong j)
opened_wrong s zero d i j e o z f = (let x : d ≡ 17 = omega arith in let y : i ≡ j = omega arith in rw (x, y) f)
opened_wrong s (suc n) d i j e (h, o) z f = group_wrong s i d (omega arith) h j (list_wrong s (suc d) (i + 1) j (opened_wrong s n (suc d) (i + 1) j (omega arith) o (omega arith) f))

-- "make " and 17 round brackets.
abbrev brackets : List ℕ
brackets = word_bytes Make ++ (40 ∷ 40 ∷ 40 ∷ 40 ∷ 40 ∷ 40 ∷ 40 ∷ 40 ∷ 40 ∷ 40 ∷ 40 ∷ 40 ∷ 40 ∷ 40 ∷ 40 ∷ 40 ∷ 40 ∷ [])

-- Behind them a byte that could not stand there anyway: 11 at it, not 12.
wrong_first : Fault (brackets ++ (41 ∷ [])) 11 22
wrong_first =
    make_wrong s 22 (record { bytes = refl; end = refl; shallow = omega arith })
    (list_wrong s 0 5 22 (opened_wrong s 17 0 5 22 refl (refl, (refl, (refl, (refl, (refl, (refl, (refl, (refl, (refl, (refl, (refl, (refl, (refl, (refl, (refl, (refl, (refl, tt)))))))))))))))))
    refl (message_none s 22 17 (misses_other s 22 97 (eqb-false 41 97 refl)) (misses_other s 22 88 (eqb-false 41 88 refl)) (misses_other s 22 102 (eqb-false 41 102 refl))
    (misses_other s 22 123 (eqb-false 41 123 refl)) (misses_other s 22 40 (eqb-false 41 40 refl))))) refl
  where
    s : List ℕ
    s = brackets ++ (41 ∷ [])
