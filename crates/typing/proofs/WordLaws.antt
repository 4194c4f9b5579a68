-- What the readers of words and lines find, return by return.
use mathlib.Core.Path.{◌≡◌, refl, sym, ◌∙◌, ap, subst}
use mathlib.Core.List.{List, ◌∷◌}
use Rattle.std.specs.Prelude.{Ok, Err}
use Prim.Native.Nat.{ℕ, zero, suc, ◌+◌, ◌≤◌, ◌<◌}
use native.Mathlib.Omega.{arith}
use native.Mathlib.Decide.{dec_lt}
use lib.ListN.{length, get_or, drop, take, drop_of_length-le}
use lib.Seq.{get_or-drop}
use Rattle.model.proofs.Read.{clash}
use Rattle.grammar.specs.Grammar.{Line, nested}
use Rattle.grammar.specs.Reader.{Runs, Finds, reads, read, wrong, list, line, token}
use Rattle.grammar.proofs.Phrases.{Has}
use Rattle.grammar.proofs.ReadLines as lines
use Rattle.grammar.proofs.ReadLines.{initial, word_none, word_more, word_stuck, word_reads, line_none, line_unread, line_wrong, line_deep, line_open, line_reads}
use Rattle.refusals.specs.declared.Refusal.{Refusal}
use Rattle.cells.specs.declared.Event.{Event}
use Rattle.typing.specs.declared.store.Store.{Store}
use Rattle.typing.specs.declared.line.Word.{Word}
use Rattle.typing.specs.declared.line.Word.TheVariants as word
use Rattle.typing.specs.Readers.{wrong_at, Misread, PastByte, ListRead}
use Rattle.typing.specs.Lines.{Matched, spelling, WordRead, event_of, found_for, LineFoundAs, RestRead}
use Rattle.typing.proofs.MessageLaws.{Byte, byte_has, byte_misses, misread_wrong, misread_part}

-- ---- bytes of a word
module _ (s : List ℕ) (at : ℕ) (w : List ℕ) where
  -- The bytes before i match.
  pub record Matching (i : ℕ) : Type 0 where
    pub short : i ≤ length w
    pub within : at + i ≤ length s
    pub runs : Runs s at (at + i) (nested 0 (take i w))

  module _ (i : ℕ) (m : Matching i) where
    pub matching_more : i < length w → Byte s (at + i) (get_or w i 0) → Matching (i + 1)
    matching_more h b = record { short = omega arith; within = omega (arith, b.0); runs = word_more s at w i h m.runs (byte_has s (at + i) (get_or w i 0) b) }

-- ---- words

first_byte : (s : List ℕ) (i c : ℕ) (rest : List ℕ) → drop i s ≡ c ∷ rest → Byte s i c
first_byte s i c rest e = elim (dec_lt i (length s)) [
  | no h ↦ (let z = drop_of_length-le s {i = i} (omega arith) in clash (cc))
  | yes h ↦ (h, (let z : i + 0 ≡ i = omega arith in ap (λ x. get_or s x 0) (sym z) ∙ (sym (get_or-drop i s 0 0) ∙ ap (λ l. get_or l 0 0) e)))
]

abbrev as_word : Word → lines.Word
as_word word.Learn = lines.Word.Learn
as_word word.Make = lines.Word.Make

module _ (s : List ℕ) (at : ℕ) where
  -- Where some bytes of a word stand, its first one does.
  learn_first : (r : ℕ) → 0 < r → Runs s at (at + r) (nested 0 (take r (spelling word.Learn))) → Has s at 108
  learn_first zero h m = absurd (omega arith)
  learn_first (suc r) h m = byte_has s at 108 (first_byte s at 108 _ m.bytes)

  make_first : (r : ℕ) → 0 < r → Runs s at (at + r) (nested 0 (take r (spelling word.Make))) → Has s at 109
  make_first zero h m = absurd (omega arith)
  make_first (suc r) h m = byte_has s at 109 (first_byte s at 109 _ m.bytes)

  pub word_learn : (r : ℕ) → Matched s at (spelling word.Learn) r → r ≡ 6 → WordRead s at (Ok (word.Learn, at + 6))
  word_learn r m e = (word_reads s at (spelling word.Learn) (subst (λ x. Runs s at (at + x) (nested 0 (take x (spelling word.Learn)))) e m.runs), omega (arith, m.within))

  pub word_make : (r : ℕ) → Matched s at (spelling word.Make) r → r ≡ 5 → WordRead s at (Ok (word.Make, at + 5))
  word_make r m e = (word_reads s at (spelling word.Make) (subst (λ x. Runs s at (at + x) (nested 0 (take x (spelling word.Make)))) e m.runs), omega (arith, m.within))

  pub word_stops_make : (q : Refusal) (r : ℕ) → q ≡ wrong_at (at + r) → Matched s at (spelling word.Make) r → (r ≡ 5 → ⊥) → (r ≡ 0 → ⊥) → Misread line s at q
  word_stops_make q r e m n z =
      let h : r < 5 = omega (arith, m.short) in
      misread_wrong line s at (at + r) q e
      (line_unread s at lines.Word.Make (make_first r (omega arith) m.runs) (at + r)
      (word_stuck s at (spelling word.Make) r h m.runs (byte_misses s (at + r) (get_or (spelling word.Make) r 0) (m.stops h))))

  stops_learn : (r k : ℕ) → Matched s at (spelling word.Learn) r → (r ≡ 6 → ⊥) → Matched s at (spelling word.Make) k → k ≡ 0 → Finds line s at (wrong (at + r))
  stops_learn zero k m n q z =
      let y : at ≡ at + 0 = omega arith in
      subst (λ x. Finds line s at (wrong x)) y
      (line_none s at (byte_misses s at 108 (λ b. m.stops (omega arith) (subst (λ x. Byte s x 108) y b)))
      (byte_misses s at 109 (λ b. (subst (Matched s at (spelling word.Make)) z q).stops (omega arith) (subst (λ x. Byte s x 109) y b))))
  stops_learn (suc r) k m n q z =
      let h : suc r < 6 = omega (arith, m.short) in
      line_unread s at lines.Word.Learn (learn_first (suc r) (omega arith) m.runs) (at + suc r)
      (word_stuck s at (spelling word.Learn) (suc r) h m.runs (byte_misses s (at + suc r) (get_or (spelling word.Learn) (suc r) 0) (m.stops h)))

  pub word_stops_learn : (q : Refusal) (r k : ℕ) → q ≡ wrong_at (at + r) → Matched s at (spelling word.Learn) r → (r ≡ 6 → ⊥) → Matched s at (spelling word.Make) k → k ≡ 0 → Misread line s at q
  word_stops_learn q r k e m n x z = misread_wrong line s at (at + r) q e (stops_learn r k m n x z)

-- ---- what stands behind the word

module _ (s : List ℕ) (at : ℕ) where
  starts : (w : Word) (i : ℕ) → Finds (token 0 (spelling w)) s i (read tt at) → Has s i (initial (as_word w))
  starts word.Learn i (reads _ _ r h) = byte_has s i 108 (first_byte s i 108 _ r.bytes)
  starts word.Make i (reads _ _ r h) = byte_has s i 109 (first_byte s i 109 _ r.bytes)

  pub rest_else : (before after : Store) (r : Refusal) → Misread (list 0) s at r → RestRead s at before (Err r) after
  rest_else before after r m w i g = go w g (starts w i g)
    where
      go : (w : Word) → Finds (token 0 (spelling w)) s i (read tt at) → Has s i (initial (as_word w)) → Misread line s i r
      go word.Learn g a = misread_part line s i (list 0) at r m (λ p x. line_wrong s i lines.Word.Learn a at g p x) (λ p x. line_deep s i lines.Word.Learn a at g p x)
      go word.Make g a = misread_part line s i (list 0) at r m (λ p x. line_wrong s i lines.Word.Make a at g p x) (λ p x. line_deep s i lines.Word.Make a at g p x)

  module _ (before after : Store) (to cell : ℕ) (got : ListRead s at 0 before (Ok (to, cell)) after) where
    pub rest_stuck : (r : Refusal) → PastByte s to 10 (Err r) → RestRead s at before (Err r) after
    rest_stuck r (n, e) w i g = misread_wrong line s i to r e (go w g (starts w i g))
      where
        go : (w : Word) → Finds (token 0 (spelling w)) s i (read tt at) → Has s i (initial (as_word w)) → Finds line s i (wrong to)
        go word.Learn g a = line_open s i lines.Word.Learn a at g to got.0 got.1 (byte_misses s to 10 n)
        go word.Make g a = line_open s i lines.Word.Make a at g to got.0 got.1 (byte_misses s to 10 n)

    pub rest_done : (end : ℕ) → PastByte s to 10 (Ok end) → RestRead s at before (Ok (end, cell)) after
    rest_done end (l, e, y) w i g = subst (λ x. LineFoundAs s i before (found_for w (Ok (x, cell))) after) (sym y) (go w g (starts w i g))
      where
        go : (w : Word) → Finds (token 0 (spelling w)) s i (read tt at) → Has s i (initial (as_word w)) → LineFoundAs s i before (found_for w (Ok (to + 1, cell))) after
        go word.Learn g a = (Line.learn got.0, line_reads s i lines.Word.Learn a at g to got.0 got.1 (byte_has s to 10 (l, e)), record { completes = got.2; event = refl })
        go word.Make g a = (Line.make got.0, line_reads s i lines.Word.Make a at g to got.0 got.1 (byte_has s to 10 (l, e)), record { completes = got.2; event = refl })

-- ---- the line

module _ (s : List ℕ) (at : ℕ) (before after : Store) (w : Word) (behind : ℕ) (x : WordRead s at (Ok (w, behind))) where
  pub line_failed : (r : Refusal) → RestRead s behind before (Err r) after → Misread line s at r
  line_failed r rest = rest w at x.0

  pub line_found : (to cell : ℕ) (e : Event) → RestRead s behind before (Ok (to, cell)) after → e ≡ event_of w cell → LineFoundAs s at before (Ok (to, e)) after
  line_found to cell e rest z = subst (λ y. LineFoundAs s at before (Ok (to, y)) after) (sym z) (rest w at x.0)
