-- What the readers of a line and of a text find, case by case, and how it leads to the promise.
-- A line: `line_none`; its word, byte by byte: `word_none`, `word_more`, `word_stuck`, `word_reads`; then `line_unread`, `line_wrong`, `line_deep`, `line_open`, `line_reads`.
-- A text, line by line: `told_end`, `told_wrong`, `told_deep`, `told_many`, `told_loose`, `told_line`, all of `Told es i (drop i s) o`.
use mathlib.Core.Path.{◌≡◌, refl, sym, ◌∙◌, ap, subst}
use mathlib.Core.Bool.{true, false}
use mathlib.Core.List.{List, [], ◌∷◌, ◌++◌, append_assoc, append-nil, append_cancel_left, head-eq_of_cons-eq}
use Prim.Native.Nat.{ℕ, suc, ◌+◌, ◌≤◌, ◌<◌}
use native.Mathlib.Omega.{arith}
use lib.ListN.{length, get_or, take, drop, drop_of_length-le}
use lib.Seq.{take-suc, take-length, drop-cons, split_at}
use borrow.Author.Tests.{eqb-false}
use Rattle.model.proofs.Read.{clash}
use Rattle.grammar.specs.Typed.{Entry}
use Rattle.grammar.specs.Grammar.{Messages, Line, learn, make, Text, bytes_of, nested, line_text, line_bytes, line_says, Shallow, Stands, Begun, Fault, early}
use Rattle.grammar.specs.Filed.{TooMany, is_loose}
use Rattle.grammar.specs.Text.{Outcome, refused, said, Front, Told, finished, faulty, many, loose}
use Rattle.grammar.specs.Reader.{Phrase, list, line, token, then, Runs, Found, read, wrong, deep, Fails, Finds, reads, fails, sinks}
use Rattle.grammar.proofs.Apart.{feed}
use Rattle.grammar.proofs.Phrases.{bytes_nested, nested_append, length_bytes, closed_by, runs_none, runs_append, runs_byte, behind, Follows, then_wrong, then_deep, then_found}
use Rattle.grammar.proofs.Phrases.{Has, Misses, token_reads, token_misses, token_unique, found_as, Starts, starts_found}
use Rattle.grammar.proofs.Phrases.{Begins, begins_then, follows_token}
use Rattle.grammar.proofs.Productions.{list_begins, follows_close, list_unique, some_list}

-- ---- the word of a line

-- The two words, with their lines.
pub data Word : Type 0 where
  Learn Make : Word

-- The line of a word and a list.
abbrev pub line_for : Word → Messages → Line
line_for Learn l = learn l
line_for Make l = make l

-- The word's bytes, with the space.
abbrev pub word_bytes : Word → List ℕ
word_bytes Learn = 108 ∷ 101 ∷ 97 ∷ 114 ∷ 110 ∷ 32 ∷ []
word_bytes Make = 109 ∷ 97 ∷ 107 ∷ 101 ∷ 32 ∷ []

-- The word's first byte.
abbrev pub initial : Word → ℕ
initial Learn = 108
initial Make = 109

module _ (s : List ℕ) (i : ℕ) (bytes : List ℕ) where
  -- The first k bytes stand at i.
  abbrev pub Spelt : ℕ → Type 0
  Spelt k = Runs s i (i + k) (nested 0 (take k bytes))

  pub word_none : Spelt 0
  word_none = (let z : i ≡ i + 0 = omega arith in subst (λ j. Runs s i j []) z (runs_none s i))

  pub word_more : (k : ℕ) → k < length bytes → Spelt k → Has s (i + k) (get_or bytes k 0) → Spelt (k + 1)
  word_more k h r e =
      let q = runs_append s i (i + k) (i + k + 1) (nested 0 (take k bytes)) ((get_or bytes k 0, 0) ∷ []) r (runs_byte s (i + k) (get_or bytes k 0) 0 e (omega arith)) in
      let z : i + k + 1 ≡ i + (k + 1) = omega arith in
      let y : suc k ≡ k + 1 = omega arith in
      let text : nested 0 (take (k + 1) bytes) ≡ nested 0 (take k bytes) ++ ((get_or bytes k 0, 0) ∷ []) =
      ap (λ x. nested 0 (take x bytes)) (sym y) ∙ (ap (nested 0) (take-suc bytes k 0 h) ∙ nested_append 0 (take k bytes) (get_or bytes k 0 ∷ [])) in
      subst (λ j. Runs s i j (nested 0 (take (k + 1) bytes))) z (subst (Runs s i (i + k + 1)) (sym text) q)

  pub word_stuck : (k : ℕ) → k < length bytes → Spelt k → Misses s (i + k) (get_or bytes k 0) → Finds (token 0 bytes) s i (wrong (i + k))
  word_stuck k low r m =
      fails (i + k) tt (nested 0 (take k bytes)) (nested 0 (get_or bytes k 0 ∷ drop (suc k) bytes)) text r (λ e n. clash (cc)) none
    where
      text : nested 0 bytes ≡ nested 0 (take k bytes) ++ nested 0 (get_or bytes k 0 ∷ drop (suc k) bytes)
      text = ap (nested 0) (split_at bytes k 0 low) ∙ nested_append 0 (take k bytes) (get_or bytes k 0 ∷ drop (suc k) bytes)

      none : (b : ℕ) (t : List ℕ) → drop (i + k) s ≡ b ∷ t → Fails (token 0 bytes) (bytes_of (nested 0 (take k bytes)) ++ (b ∷ []))
      none b t e u c beh rest h q = m b t e (sym (head-eq_of_cons-eq (append_cancel_left (take k bytes) (get_or bytes k 0 ∷ (drop (suc k) bytes ++ (c ∷ beh))) (b ∷ rest) same)))
        where
          same : take k bytes ++ (get_or bytes k 0 ∷ (drop (suc k) bytes ++ (c ∷ beh))) ≡ take k bytes ++ (b ∷ rest)
          same =
              sym (append_assoc (take k bytes) (get_or bytes k 0 ∷ drop (suc k) bytes) (c ∷ beh))
              ∙ (ap (λ l. l ++ (c ∷ beh)) (sym (split_at bytes k 0 low) ∙ sym (bytes_nested 0 bytes))
              ∙ (q ∙ (ap (λ l. l ++ (b ∷ []) ++ rest) (bytes_nested 0 (take k bytes)) ∙ append_assoc (take k bytes) (b ∷ []) rest)))

  pub word_reads : Spelt (length bytes) → Finds (token 0 bytes) s i (read tt (i + length bytes))
  word_reads r = reads tt (i + length bytes) (subst (λ l. Runs s i (i + length bytes) (nested 0 l)) (take-length bytes) r) (closed_by (token 0 bytes) tt (drop (i + length bytes) s) (λ b t e. tt))

-- ---- lines

-- A list and its line feed; with the word before them.
abbrev Ended : Phrase
Ended = then (list 0) (token 0 (10 ∷ []))

abbrev Worded : Word → Phrase
Worded w = then (token 0 (word_bytes w)) Ended

follows_feed : Follows (list 0) (token 0 (10 ∷ []))
follows_feed = follows_close 0 10 0 [] feed (eqb-false 10 44 refl)

begins_ended : Begins Ended
begins_ended = begins_then (list 0) (token 0 (10 ∷ [])) (list_begins 0)

abbrev worded_as : (w : Word) → (Worded w).Of → Line
worded_as w q = line_for w q.1.0

starts_line : (w : Word) → Starts (Worded w) line (worded_as w) (initial w)
starts_line Learn = record { text = λ q. refl; ends = λ q c h. tt; back = back }
  where
    back : (p : Line) (c : ℕ) (beh rest : List ℕ) → Unit {0} → line_bytes p ++ (c ∷ beh) ≡ 108 ∷ rest → (q : (Worded Learn).Of) × (line_text p ≡ (Worded Learn).text q) × Unit {0}
    back (learn l) c beh rest h e = ((tt, (l, tt)), refl, tt)
    back (make l) c beh rest h e = absurd (eqb-false 109 108 refl (head-eq_of_cons-eq e))
starts_line Make = record { text = λ q. refl; ends = λ q c h. tt; back = back }
  where
    back : (p : Line) (c : ℕ) (beh rest : List ℕ) → Unit {0} → line_bytes p ++ (c ∷ beh) ≡ 109 ∷ rest → (q : (Worded Make).Of) × (line_text p ≡ (Worded Make).text q) × Unit {0}
    back (learn l) c beh rest h e = absurd (eqb-false 108 109 refl (head-eq_of_cons-eq e))
    back (make l) c beh rest h e = ((tt, (l, tt)), refl, tt)

module _ (s : List ℕ) (i : ℕ) where
  pub line_none : Misses s i 108 → Misses s i 109 → Finds line s i (wrong i)
  line_none a b = fails i (learn some_list) [] (line_text (learn some_list)) refl (runs_none s i) (λ e n. clash (cc)) none
    where
      none : (x : ℕ) (t : List ℕ) → drop i s ≡ x ∷ t → Fails line (x ∷ [])
      none x t e (learn l) c beh rest h q = a x t e (sym (head-eq_of_cons-eq q))
      none x t e (make l) c beh rest h q = b x t e (sym (head-eq_of_cons-eq q))

  module _ (w : Word) (first : Has s i (initial w)) where
    worded : (o : Found (Worded w).Of) → Finds (Worded w) s i o → Finds line s i (found_as (worded_as w) o)
    worded o f = starts_found (Worded w) line (worded_as w) (initial w) (starts_line w) s i o first f

    pub line_unread : (j : ℕ) → Finds (token 0 (word_bytes w)) s i (wrong j) → Finds line s i (wrong j)
    line_unread j f = worded (wrong j) (then_wrong (token 0 (word_bytes w)) Ended (follows_token 0 (word_bytes w) Ended begins_ended) (some_list, tt) s i j f)

    module _ (j : ℕ) (f : Finds (token 0 (word_bytes w)) s i (read tt j)) where
      ended : (o : Found Ended.Of) → Finds Ended s j o → Finds line s i (found_as (worded_as w) (behind tt o))
      ended o g =
          worded (behind tt o)
          (then_found (token 0 (word_bytes w)) Ended (follows_token 0 (word_bytes w) Ended begins_ended) (some_list, tt) (token_unique 0 (word_bytes w)) s i j tt o f g)

      pub line_wrong : (k : ℕ) → Finds (list 0) s j (wrong k) → Finds line s i (wrong k)
      line_wrong k g = ended (wrong k) (then_wrong (list 0) (token 0 (10 ∷ [])) follows_feed tt s j k g)

      pub line_deep : (k : ℕ) → Finds (list 0) s j (deep k) → Finds line s i (deep k)
      line_deep k g = ended (deep k) (then_deep (list 0) (token 0 (10 ∷ [])) follows_feed tt s j k g)

      module _ (k : ℕ) (l : Messages) (g : Finds (list 0) s j (read l k)) where
        fed : (o : Found Unit) → Finds (token 0 (10 ∷ [])) s k o → Finds Ended s j (behind l o)
        fed o h = then_found (list 0) (token 0 (10 ∷ [])) follows_feed tt (list_unique 0) s j k l o g h

        pub line_open : Misses s k 10 → Finds line s i (wrong k)
        line_open m = ended (wrong k) (fed (wrong k) (token_misses s k 10 0 m))

        pub line_reads : Has s k 10 → Finds line s i (read (line_for w l) (k + 1))
        line_reads e = ended (read (l, tt) (k + 1)) (fed (read tt (k + 1)) (token_reads s k 10 0 (omega arith) e))

-- ---- the first byte at fault

-- No line begins with bytes that fail, whatever follows.
fails_stands : (front : List ℕ) → Fails line front → Stands front → ⊥
fails_stands front bad (l, rest, e) = bad l 0 [] (rest ++ (0 ∷ [])) tt (ap (λ b. b ++ (0 ∷ [])) e ∙ append_assoc front rest (0 ∷ []))

-- A whole line does not fail.
whole_line : (l : Line) (w : Text) (b : ℕ) → line_text l ≡ w ++ [] → Fails line (bytes_of w ++ (b ∷ [])) → ⊥
whole_line l w b e bad =
    bad l b [] [] tt (ap (λ t. bytes_of t ++ (b ∷ [])) (e ∙ append-nil w) ∙ sym (append-nil (bytes_of w ++ (b ∷ []))))

begun : (l : Line) (w rest : Text) → line_text l ≡ w ++ rest → Shallow w → (rest ≡ [] → ⊥) → Begun (bytes_of w)
begun l w [] e h n = absurd (n refl)
begun l w (b ∷ rest) e h n = (l, w, b, rest, e, refl, h)

module _ (s : List ℕ) (i : ℕ) where
  pub fault_wrong : (j : ℕ) → Finds line s i (wrong j) → (k : ℕ) × (j ≡ i + k) × Fault (drop i s) 11 k
  fault_wrong j (fails _ l w rest e r on bad) = go (drop j s) refl
    where
      place : (u : List ℕ) → u ≡ bytes_of w → j ≡ i + length u
      place u z = (let y = length_bytes w in let x = ap (λ (b : List ℕ). length b) z in omega (arith, r.end))

      go : (t : List ℕ) → drop j s ≡ t → (k : ℕ) × (j ≡ i + k) × Fault (drop i s) 11 k
      go [] z =
          let u : drop i s ≡ bytes_of w = r.bytes ∙ (ap (λ t. bytes_of w ++ t) z ∙ append-nil (bytes_of w)) in
          (length (drop i s), place (drop i s) u, early (subst Begun (sym u) (begun l w rest e r.shallow (on z))))
      go (b ∷ t) z = (
        length (bytes_of w),
        place (bytes_of w) refl,
        Fault.wrong (bytes_of w) b t (r.bytes ∙ ap (λ t. bytes_of w ++ t) z)
            (begun l w rest e r.shallow (λ n. whole_line l w b (e ∙ ap (λ t. w ++ t) n) (bad b t z))) (fails_stands (bytes_of w ++ (b ∷ [])) (bad b t z)),
      )

  pub fault_deep : (j : ℕ) → Finds line s i (deep j) → (k : ℕ) × (j ≡ i + k) × Fault (drop i s) 12 k
  fault_deep j (sinks _ l w b n rest beh e r h z) = (length w, r.end, Fault.deep l w b n rest beh e r.shallow h (r.bytes ∙ ap (λ t. bytes_of w ++ t) z))

  pub line_front : (j : ℕ) (l : Line) → Finds line s i (read l j) → Front (drop i s) l (drop j s) × (j ≡ i + length (line_bytes l))
  line_front j l (reads _ _ r h) = (record { bytes = r.bytes; shallow = r.shallow }, (let y = length_bytes (line_text l) in omega (arith, r.end)))

-- ---- a text, line by line

module _ (s : List ℕ) (i : ℕ) (es : List Entry) where
  pub told_end : length s ≤ i → Told es i (drop i s) (said es)
  told_end h = subst (λ t. Told es i t (said es)) (sym (drop_of_length-le s h)) finished

  told_fault : (n k j : ℕ) → i < length s → j ≡ i + k → Fault (drop i s) n k → Told es i (drop i s) (refused n j)
  told_fault n k j h e f =
      let c = drop-cons s i 0 h in
      subst (λ t. Told es i t (refused n j)) (sym c) (subst (λ x. Told es i (get_or s i 0 ∷ drop (suc i) s) (refused n x)) (sym e) (faulty n k (subst (λ t. Fault t n k) c f)))

  pub told_wrong : (j : ℕ) → i < length s → Finds line s i (wrong j) → Told es i (drop i s) (refused 11 j)
  told_wrong j h f = let (k, e, g) = fault_wrong s i j f in told_fault 11 k j h e g

  pub told_deep : (j : ℕ) → i < length s → Finds line s i (deep j) → Told es i (drop i s) (refused 12 j)
  told_deep j h f = let (k, e, g) = fault_deep s i j f in told_fault 12 k j h e g

  module _ (l : Line) (j : ℕ) (f : Finds line s i (read l j)) where
    pub told_many : TooMany (es ++ (line_says l ∷ [])) → Told es i (drop i s) (refused 4 i)
    told_many m = many l (drop j s) (line_front s i j l f).0 m

    pub told_loose : (TooMany (es ++ (line_says l ∷ [])) → ⊥) → is_loose es (line_says l) ≡ true → Told es i (drop i s) (refused 6 i)
    told_loose few e = loose l (drop j s) (line_front s i j l f).0 few e

    pub told_line : (o : Outcome) → (TooMany (es ++ (line_says l ∷ [])) → ⊥) → is_loose es (line_says l) ≡ false → Told (es ++ (line_says l ∷ [])) j (drop j s) o → Told es i (drop i s) o
    told_line o few e t =
        let (front, z) = line_front s i j l f in
        Told.line l (drop j s) front few e (subst (λ x. Told (es ++ (line_says l ∷ [])) x (drop j s) o) z t)
