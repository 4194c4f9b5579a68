-- What a reader of lists finds, case by case, and message by message in a loop.
use mathlib.Core.Path.{◌≡◌, refl, sym, ◌∙◌, ap, subst}
use mathlib.Core.List.{List, [], ◌∷◌, ◌++◌, append_assoc, head-eq_of_cons-eq, tail-eq_of_cons-eq}
use Prim.Native.Nat.{ℕ, ◌+◌, ◌≤◌}
use lib.ListN.{drop}
use Rattle.grammar.specs.Grammar.{Message, atom, variable, apply, seal, group, Messages, last, more, Text, bytes_of, message_text, list_text, Shallow}
use Rattle.grammar.specs.Reader.{MessageEnds, message, list, joins, Runs, Found, read, wrong, deep, Closed, Fails, Finds, reads, fails, sinks}
use Rattle.grammar.proofs.Apart.{message_ends, comma}
use Rattle.grammar.proofs.Phrases.{bytes_append, closed_by, runs_append, runs_byte, decode, Has, Misses, found_as}
use Rattle.grammar.proofs.Productions.{message_unique}

fails_list : (d : ℕ) (front : List ℕ) → Fails (message d) front → Fails (list d) front
unfolding message_text
fails_list d front bad (last m) c beh rest (h, n) q = bad m c beh rest h q
fails_list d front bad (more m l) c beh rest h q =
    bad m 44 (bytes_of (list_text l d) ++ (c ∷ beh)) rest (message_ends m 44 comma)
    (sym (append_assoc (bytes_of (message_text m d)) (44 ∷ bytes_of (list_text l d)) (c ∷ beh)) ∙ (ap (λ b. b ++ (c ∷ beh)) (sym (bytes_append (message_text m d) ((44, d) ∷ list_text l d))) ∙ q))

-- What is read is not too deep.
message_shallow : (m : Message) (d : ℕ) → Shallow (message_text m d) → d ≤ 16
unfolding message_text
message_shallow (atom n k) d (h, hs) = h
message_shallow (variable n k) d (h, hs) = h
message_shallow (apply f k l) d (h, hs) = h
message_shallow (seal l k) d (h, hs) = h
message_shallow (group l) d (h, hs) = h

module _ (s : List ℕ) (d : ℕ) where
  pub list_wrong : (i j : ℕ) → Finds (message d) s i (wrong j) → Finds (list d) s i (wrong j)
  unfolding message_text
  list_wrong i j (fails _ a w rest e r on bad) = fails j (last a) w rest e r on (λ b t z. fails_list d (bytes_of w ++ (b ∷ [])) (bad b t z))

  pub list_deep : (i j : ℕ) → Finds (message d) s i (deep j) → Finds (list d) s i (deep j)
  unfolding message_text
  list_deep i j (sinks _ a w b n rest beh e r m z) = sinks j (last a) w b n rest beh e r m z

  pub list_last : (i j : ℕ) (m : Message) → Finds (message d) s i (read m j) → Misses s j 44 → Finds (list d) s i (read (last m) j)
  unfolding message_text
  list_last i j m (reads _ _ r h) n = reads (last m) j r (closed_by (list d) (last m) (drop j s) (λ b t e. (ends (drop j s) b t e h, n b t e)))
    where
      ends : (u : List ℕ) (b : ℕ) (t : List ℕ) → u ≡ b ∷ t → Closed (message d) m u → MessageEnds m b
      ends u b t e h = subst (Closed (message d) m) e h

  -- A message and a comma before what is found.
  module _ (i j : ℕ) (m : Message) (r : Runs s i j (message_text m d)) (h : Closed (message d) m (drop j s)) (e : Has s j 44) where
    joined_runs : (k : ℕ) (w : Text) → Runs s (j + 1) k w → Runs s i k (message_text m d ++ ((44, d) ∷ w))
    joined_runs k w q =
        runs_append s i j k (message_text m d) ((44, d) ∷ w) r (runs_append s j (j + 1) k ((44, d) ∷ []) w (runs_byte s j 44 d e (message_shallow m d r.shallow)) q)

    -- A list that begins with the message and the comma goes on with a list.
    fails_more : (front : List ℕ) → Fails (list d) front → Fails (list d) (bytes_of (message_text m d) ++ (44 ∷ front))
    unfolding message_text
    fails_more front bad (last m') c beh rest (k, n) q =
        n (head-eq_of_cons-eq (decode (message d) (message_unique d) m' m c 44 beh (front ++ rest) k (message_ends m 44 comma) (q ∙ append_assoc (bytes_of (message_text m d)) (44 ∷ front) rest)).1)
    fails_more front bad (more m' l) c beh rest k q =
        let split : bytes_of (message_text m' d) ++ (44 ∷ (bytes_of (list_text l d) ++ (c ∷ beh))) ≡ bytes_of (message_text m d) ++ (44 ∷ (front ++ rest)) =
        sym (append_assoc (bytes_of (message_text m' d)) (44 ∷ bytes_of (list_text l d)) (c ∷ beh))
        ∙ (ap (λ b. b ++ (c ∷ beh)) (sym (bytes_append (message_text m' d) ((44, d) ∷ list_text l d))) ∙ (q ∙ append_assoc (bytes_of (message_text m d)) (44 ∷ front) rest)) in
        let (t, tail) = decode (message d) (message_unique d) m' m 44 44 (bytes_of (list_text l d) ++ (c ∷ beh)) (front ++ rest) (message_ends m' 44 comma) (message_ends m 44 comma) split in
        bad l c beh rest k (tail-eq_of_cons-eq tail)

    more_found : (o : Found Messages) → Finds (list d) s (j + 1) o → Finds (list d) s i (found_as (more m) o)
    unfolding message_text
    more_found o (reads l k q g) = reads (more m l) k (joined_runs k (list_text l d) q) (closed_more (drop k s) g)
      where
        closed_more : (t : List ℕ) → Closed (list d) l t → Closed (list d) (more m l) t
        closed_more [] g = tt
        closed_more (c ∷ t) g = g
    more_found o (sinks k l w b n rest beh z q g y) =
        sinks k (more m l) (message_text m d ++ ((44, d) ∷ w)) b n rest beh
        (ap (λ t. message_text m d ++ ((44, d) ∷ t)) z ∙ sym (append_assoc (message_text m d) ((44, d) ∷ w) ((b, n) ∷ rest))) (joined_runs k w q) g y
    more_found o (fails k l w rest z q on bad) =
        fails k (more m l) (message_text m d ++ ((44, d) ∷ w)) rest (ap (λ t. message_text m d ++ ((44, d) ∷ t)) z ∙ sym (append_assoc (message_text m d) ((44, d) ∷ w) rest)) (joined_runs k w q) on
        (λ b t y. subst (Fails (list d)) (front b) (fails_more (bytes_of w ++ (b ∷ [])) (bad b t y)))
      where
        front : (b : ℕ) → bytes_of (message_text m d) ++ (44 ∷ (bytes_of w ++ (b ∷ []))) ≡ bytes_of (message_text m d ++ ((44, d) ∷ w)) ++ (b ∷ [])
        front b = sym (append_assoc (bytes_of (message_text m d)) (44 ∷ bytes_of w) (b ∷ [])) ∙ ap (λ l. l ++ (b ∷ [])) (sym (bytes_append (message_text m d) ((44, d) ∷ w)))

  pub list_more : (i j : ℕ) (m : Message) (o : Found Messages) → Finds (message d) s i (read m j) → Has s j 44 → Finds (list d) s (j + 1) o → Finds (list d) s i (found_as (more m) o)
  list_more i j m o (reads _ _ r h) e f = more_found i j m r h e o f

-- ---- lists, message by message

joins_snoc : (ms : List Message) (m : Message) (l : Messages) → joins (ms ++ (m ∷ [])) l ≡ joins ms (more m l)
joins_snoc [] m l = refl
joins_snoc (n ∷ ms) m l = ap (more n) (joins_snoc ms m l)

-- What is found from k on is found from i on, with the messages ms before it.
abbrev pub Listing : ℕ → List ℕ → ℕ → ℕ → List Message → Type 0
Listing d s i k ms = (o : Found Messages) → Finds (list d) s k o → Finds (list d) s i (found_as (joins ms) o)

pub listing_none : (d : ℕ) (s : List ℕ) (i : ℕ) → Listing d s i i []
listing_none d s i (read l j) f = f
listing_none d s i (wrong j) f = f
listing_none d s i (deep j) f = f

pub listing_more : (d : ℕ) (s : List ℕ) (i k j : ℕ) (ms : List Message) (m : Message) → Listing d s i k ms → Finds (message d) s k (read m j) → Has s j 44 →
    Listing d s i (j + 1) (ms ++ (m ∷ []))
listing_more d s i k j ms m before f e (read l p) g =
    subst (λ x. Finds (list d) s i (read x p)) (sym (joins_snoc ms m l)) (before (read (more m l) p) (list_more s d k j m (read l p) f e g))
listing_more d s i k j ms m before f e (wrong p) g = before (wrong p) (list_more s d k j m (wrong p) f e g)
listing_more d s i k j ms m before f e (deep p) g = before (deep p) (list_more s d k j m (deep p) f e g)
