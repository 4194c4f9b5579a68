-- Worked examples of what is written: its bytes, their nesting, what it says, its file.
use mathlib.Core.Path.{◌≡◌, refl}
use mathlib.Core.Bool.{Bool, true, false, cond}
use mathlib.Core.List.{List, [], ◌∷◌, ◌++◌, map}
use Prim.Native.Nat.{ℕ, zero, suc}
use native.Mathlib.Omega.{arith}
use lib.Dec.{leb}
use lib.ListN.{take, drop}
use borrow.Author.Tests.{leb-true}
use Rattle.model.specs.Case.{AT, VA, PR, SE, AP, MK, LN}
use Rattle.model.specs.Format.{any_of}
use Rattle.grammar.specs.Typed.{name, paired, sealed}
use Rattle.grammar.specs.Grammar.{decimal, digits, Message, atom, apply, seal, group, Messages, last, more, Line, Text, bytes_of, message_text, line_text, line_bytes}
use Rattle.grammar.specs.Grammar.{message_says, list_says, line_says, Shallow, Fault, early, deep}
use Rattle.grammar.specs.Filed.{same, completed, completions, entered, place, file_of}
use Rattle.grammar.proofs.Trees.{both}

-- Numbers are written without leading zeros.
numbers : (decimal 0 ≡ 48 ∷ []) × (decimal 7 ≡ 55 ∷ []) × (decimal 10 ≡ 49 ∷ 48 ∷ []) × (decimal 65535 ≡ 54 ∷ 53 ∷ 53 ∷ 51 ∷ 53 ∷ [])
unfolding digits
numbers = (refl, refl, refl, refl)

-- {|a1|}{|a2|}a3
abbrev chain : Message
chain = seal (last (atom 1 (omega arith))) (seal (last (atom 2 (omega arith))) (atom 3 (omega arith)))

chain_bytes : bytes_of (message_text chain 0) ≡ 123 ∷ 124 ∷ 97 ∷ 49 ∷ 124 ∷ 125 ∷ 123 ∷ 124 ∷ 97 ∷ 50 ∷ 124 ∷ 125 ∷ 97 ∷ 51 ∷ []
unfolding digits message_text
chain_bytes = refl

-- a1 is at 1, the second seal at 1 as it is a key, a2 and a3 at 2.
chain_nesting : map (λ (b : ℕ × ℕ). b.1) (message_text chain 0) ≡ 0 ∷ 0 ∷ 1 ∷ 1 ∷ 0 ∷ 0 ∷ 1 ∷ 1 ∷ 2 ∷ 2 ∷ 1 ∷ 1 ∷ 2 ∷ 2 ∷ []
unfolding digits message_text
chain_nesting = refl

chain_says : message_says chain ≡ sealed (name 1) (sealed (name 2) (name 3))
unfolding message_says
chain_says = refl

-- a1,a2,a3 and its file: a1, a2, a3, then the pair of a2 and a3, then the whole.
abbrev three : Messages
three = more (atom 1 (omega arith)) (more (atom 2 (omega arith)) (last (atom 3 (omega arith))))

three_says : list_says three ≡ paired (name 1) (paired (name 2) (name 3))
unfolding message_says
three_says = refl

three_filed : file_of (line_says (Line.learn three) ∷ []) ≡ record { cells = AT 1 ∷ AT 2 ∷ AT 3 ∷ PR 1 2 ∷ PR 0 3 ∷ []; events = LN 4 ∷ [] }
unfolding digits message_says completed completions entered place same any_of
three_filed = refl

-- learn {|(a1),X7|}f9(X7) and make X7: no message twice, round brackets leave no trace.
abbrev lines : List Line
lines = Line.learn (last (seal (more (group (last (atom 1 (omega arith)))) (last (Message.variable 7 (omega arith)))) (apply 9 (omega arith) (last (Message.variable 7 (omega arith))))))
    ∷ Line.make (last (Message.variable 7 (omega arith)))
    ∷ []

lines_filed : file_of (map line_says lines) ≡ record { cells = AT 1 ∷ VA ∷ PR 0 1 ∷ AP 9 1 ∷ SE 2 3 ∷ []; events = LN 4 ∷ MK 1 ∷ [] }
unfolding digits message_says completed completions entered place same any_of
lines_filed = refl

-- ---- nesting

-- No byte is nested deeper than 16, by a test.
abbrev shallow_in : Text → Bool
shallow_in [] = true
shallow_in (b ∷ w) = cond (leb b.1 16) (shallow_in w) false

shallow_test : (w : Text) → shallow_in w ≡ true → Shallow w
shallow_test [] e = tt
shallow_test (b ∷ w) e = let (h, k) = both (leb b.1 16) (shallow_in w) e in (leb-true b.1 16 h, shallow_test w k)

-- n seals, each the key of the one before: {|a1|}{|a1|}..a1
abbrev keys : ℕ → Message
keys zero = atom 1 (omega arith)
keys (suc n) = seal (last (atom 1 (omega arith))) (keys n)

-- The k-th seal is at k - 1 and its body at k: 16 seals are within the bound.
keys_within : Shallow (line_text (Line.make (last (keys 16))))
unfolding digits message_text
keys_within = shallow_test (line_text (Line.make (last (keys 16)))) refl

-- Of 17 the last one's body is too deep: 12 at its first byte.
keys_deep : Fault (line_bytes (Line.make (last (keys 17)))) 12 103
unfolding digits message_text
keys_deep = deep (Line.make (last (keys 17))) (take 103 w) 97 17 (drop 104 w) (bytes_of (drop 104 w)) refl (shallow_test (take 103 w) refl) (omega arith) refl
  where
    w : Text
    w = line_text (Line.make (last (keys 17)))

-- n round brackets around a1.
abbrev grouped : ℕ → Message
grouped zero = atom 1 (omega arith)
grouped (suc n) = group (last (grouped n))

groups_within : Shallow (line_text (Line.make (last (grouped 16))))
unfolding digits message_text
groups_within = shallow_test (line_text (Line.make (last (grouped 16)))) refl

-- Of 17 brackets none is too deep, but the byte behind the last: 12, whatever follows it.
groups_deep : (behind : List ℕ) → Fault (bytes_of (take 22 (line_text (Line.make (last (grouped 17))))) ++ (97 ∷ behind)) 12 22
unfolding digits message_text
groups_deep behind = deep (Line.make (last (grouped 17))) (take 22 w) 97 17 (drop 23 w) behind refl (shallow_test (take 22 w) refl) (omega arith) refl
  where
    w : Text
    w = line_text (Line.make (last (grouped 17)))

-- A text that ends there is at fault at its length: 11.
groups_early : Fault (bytes_of (take 22 (line_text (Line.make (last (grouped 17)))))) 11 22
unfolding digits message_text
groups_early = early (Line.make (last (grouped 17)), take 22 w, (97, 17), drop 23 w, refl, refl, shallow_test (take 22 w) refl)
  where
    w : Text
    w = line_text (Line.make (last (grouped 17)))
