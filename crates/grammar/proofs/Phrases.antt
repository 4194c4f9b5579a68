-- What is found of a phrase, from what is found of its parts: one phrase behind another, and one of several by its first byte.
use mathlib.Core.Path.{◌≡◌, refl, sym, ◌∙◌, ap, subst}
use mathlib.Core.Logic.{◌⊎◌, inl, inr}
use mathlib.Core.List.{List, [], ◌∷◌, ◌++◌, append_assoc, append_cancel_left, head-eq_of_cons-eq}
use Prim.Native.Nat.{ℕ, suc, ◌+◌, ◌≤◌, ◌<◌}
use native.Mathlib.Omega.{arith}
use lib.ListN.{length, get_or, drop, length-append, drop_of_length-le}
use lib.Seq.{get_or-drop, drop-cons}
use Rattle.model.proofs.Read.{clash}
use Rattle.grammar.specs.Grammar.{Text, bytes_of, nested, Shallow}
use Rattle.grammar.specs.Reader.{Phrase, token, then, Runs, Found, read, wrong, deep, Closed, Fails, Finds, reads, fails, sinks}
use Rattle.grammar.proofs.Apart.{Apart, apart_bytes}

-- ---- texts

pub bytes_append : (w v : Text) → bytes_of (w ++ v) ≡ bytes_of w ++ bytes_of v
bytes_append [] v = refl
bytes_append (b ∷ w) v = ap (λ l. b.0 ∷ l) (bytes_append w v)

pub bytes_nested : (d : ℕ) (l : List ℕ) → bytes_of (nested d l) ≡ l
bytes_nested d [] = refl
bytes_nested d (b ∷ l) = ap (λ l. b ∷ l) (bytes_nested d l)

pub nested_append : (d : ℕ) (l m : List ℕ) → nested d (l ++ m) ≡ nested d l ++ nested d m
nested_append d [] m = refl
nested_append d (b ∷ l) m = ap (λ w. (b, d) ∷ w) (nested_append d l m)

pub length_bytes : (w : Text) → length (bytes_of w) ≡ length w
length_bytes [] = refl
length_bytes (b ∷ w) = (let z = length_bytes w in omega arith)

pub shallow_append : (w v : Text) → Shallow w → Shallow v → Shallow (w ++ v)
shallow_append [] v h k = k
shallow_append (b ∷ w) v (h, hs) k = (h, shallow_append w v hs k)

pub shallow_front : (w v : Text) → Shallow (w ++ v) → Shallow w
shallow_front [] v h = tt
shallow_front (b ∷ w) v (h, hs) = (h, shallow_front w v hs)

pub shallow_behind : (w v : Text) → Shallow (w ++ v) → Shallow v
shallow_behind [] v h = h
shallow_behind (b ∷ w) v (h, hs) = shallow_behind w v hs

module _ (s : List ℕ) where
  pub runs_none : (i : ℕ) → Runs s i i []
  runs_none i = record { bytes = refl; end = omega arith; shallow = tt }

  pub runs_append : (i j k : ℕ) (w v : Text) → Runs s i j w → Runs s j k v → Runs s i k (w ++ v)
  runs_append i j k w v r q = record {
    bytes = r.bytes ∙ (ap (λ l. bytes_of w ++ l) q.bytes ∙ (sym (append_assoc (bytes_of w) (bytes_of v) (drop k s)) ∙ ap (λ l. l ++ drop k s) (sym (bytes_append w v))));
    end = (let z = length-append w v in omega (arith, r.end, q.end));
    shallow = shallow_append w v r.shallow q.shallow;
  }

  pub runs_byte : (i b d : ℕ) → drop i s ≡ b ∷ drop (i + 1) s → d ≤ 16 → Runs s i (i + 1) ((b, d) ∷ [])
  runs_byte i b d e h = record { bytes = e; end = refl; shallow = (h, tt) }

-- What stands behind does not go on with the phrase, if its first byte does not.
pub closed_by : (P : Phrase) (a : P.Of) (t : List ℕ) → ((b : ℕ) (r : List ℕ) → t ≡ b ∷ r → P.Ends a b) → Closed P a t
closed_by P a [] h = tt
closed_by P a (c ∷ t) h = h c t refl

-- ---- one decoding

-- Two phrases, each with a byte behind it that does not go on with it, are the same or part ways.
abbrev pub Unique : Phrase → Type 0
Unique P = (a a' : P.Of) (x y : ℕ × ℕ) (X Y : Text) → P.Ends a x.0 → P.Ends a' y.0 → (P.text a ≡ P.text a') ⊎ Apart (P.text a ++ (x ∷ X)) (P.text a' ++ (y ∷ Y))

marked : (w : Text) (x : ℕ) (X : List ℕ) → bytes_of (w ++ ((x, 0) ∷ nested 0 X)) ≡ bytes_of w ++ (x ∷ X)
marked w x X = bytes_append w ((x, 0) ∷ nested 0 X) ∙ ap (λ l. bytes_of w ++ (x ∷ l)) (bytes_nested 0 X)

pub decode : (P : Phrase) → Unique P → (a a' : P.Of) (x y : ℕ) (X Y : List ℕ) → P.Ends a x → P.Ends a' y →
    bytes_of (P.text a) ++ (x ∷ X) ≡ bytes_of (P.text a') ++ (y ∷ Y) → (P.text a ≡ P.text a') × (◌≡◌ {A = List ℕ} (x ∷ X) (y ∷ Y))
decode P u a a' x y X Y h k e = elim (u a a' (x, 0) (y, 0) (nested 0 X) (nested 0 Y) h k) [
  | inl t ↦ (t, append_cancel_left (bytes_of (P.text a)) (x ∷ X) (y ∷ Y) (e ∙ ap (λ w. bytes_of w ++ (y ∷ Y)) (sym t)))
  | inr p ↦ absurd (apart_bytes p (marked (P.text a) x X ∙ (e ∙ sym (marked (P.text a') y Y))))
]

-- ---- one phrase behind another

-- What is found of the two, if the first is a.
abbrev pub behind : {A B : Type 0} → A → Found B → Found (A × B)
behind a (read b j) = read (a, b) j
behind a (wrong j) = wrong j
behind a (deep j) = deep j

-- Every phrase of P has a first byte.
abbrev pub Begins : Phrase → Type 0
Begins P = (p : P.Of) → (y : ℕ × ℕ) × (Y : Text) × (P.text p ≡ y ∷ Y)

-- Every B has a first byte, and it ends every A before it.
abbrev pub Follows : Phrase → Phrase → Type 0
Follows A B = (a : A.Of) (b : B.Of) → (y : ℕ × ℕ) × (Y : Text) × (B.text b ≡ y ∷ Y) × A.Ends a y.0

module _ (A B : Phrase) (follows : Follows A B) (some : B.Of) where
  -- The bytes of an A, of a B and what is behind, by the first byte of the B.
  joined : (a : A.Of) (b : B.Of) (rest front more : List ℕ) → bytes_of (A.text a ++ B.text b) ++ rest ≡ front ++ more →
      (y : ℕ) × (Y : List ℕ) × (bytes_of (B.text b) ++ rest ≡ y ∷ Y) × A.Ends a y × (bytes_of (A.text a) ++ (y ∷ Y) ≡ front ++ more)
  joined a b rest front more e =
      let (y, Y, t, h) = follows a b in
      let q : bytes_of (B.text b) ++ rest ≡ y.0 ∷ (bytes_of Y ++ rest) = ap (λ w. bytes_of w ++ rest) t in
      let z : bytes_of (A.text a) ++ (y.0 ∷ (bytes_of Y ++ rest)) ≡ bytes_of (A.text a ++ B.text b) ++ rest =
      ap (λ l. bytes_of (A.text a) ++ l) (sym q) ∙ (sym (append_assoc (bytes_of (A.text a)) (bytes_of (B.text b)) rest) ∙ ap (λ l. l ++ rest) (sym (bytes_append (A.text a) (B.text b)))) in
      (y.0, bytes_of Y ++ rest, q, h, z ∙ e)

  fails_left : (front : List ℕ) → Fails A front → Fails (then A B) front
  fails_left front bad (a, b) c beh rest h e = let (y, Y, q, k, z) = joined a b (c ∷ beh) front rest e in bad a y Y rest k z

  -- A fault in the first is one of the two.
  pub then_wrong : (s : List ℕ) (i j : ℕ) → Finds A s i (wrong j) → Finds (then A B) s i (wrong j)
  then_wrong s i j (fails _ a w rest e r on bad) =
      fails j (a, some) w (rest ++ B.text some) (ap (λ t. t ++ B.text some) e ∙ append_assoc w rest (B.text some)) r (λ z n. never rest (follows a some) n)
      (λ b beh z. fails_left (bytes_of w ++ (b ∷ [])) (bad b beh z))
    where
      never : (rest : Text) → (y : ℕ × ℕ) × (Y : Text) × (B.text some ≡ y ∷ Y) × A.Ends a y.0 → rest ++ B.text some ≡ [] → ⊥
      never [] (y, Y, t, h) n = clash (cc)
      never (x ∷ rest) f n = clash (cc)

  pub then_deep : (s : List ℕ) (i j : ℕ) → Finds A s i (deep j) → Finds (then A B) s i (deep j)
  then_deep s i j (sinks _ a w b n rest beh e r h z) =
      sinks j (a, some) w b n (rest ++ B.text some) beh (ap (λ t. t ++ B.text some) e ∙ append_assoc w ((b, n) ∷ rest) (B.text some)) r h z

  module _ (unique : Unique A) where
    -- The first byte behind an A that was read ends it.
    first_ends : (a : A.Of) (t front more : List ℕ) → Closed A a t → t ≡ front ++ more → (c : ℕ) (l : List ℕ) → front ≡ c ∷ l → A.Ends a c
    first_ends a t front more h e c l z = subst (Closed A a) (e ∙ ap (λ f. f ++ more) z) h

    fails_right : (a : A.Of) (t front more : List ℕ) → Closed A a t → t ≡ front ++ more → (c : ℕ) (l : List ℕ) → front ≡ c ∷ l → Fails B front →
        Fails (then A B) (bytes_of (A.text a) ++ front)
    fails_right a t front more h e c l z bad (a', b) x beh rest k q =
        let (y, Y, u, ends, v) = joined a' b (x ∷ beh) (bytes_of (A.text a) ++ front) rest q in
        let split : bytes_of (A.text a) ++ front ++ rest ≡ bytes_of (A.text a) ++ (c ∷ (l ++ rest)) =
        append_assoc (bytes_of (A.text a)) front rest ∙ ap (λ f. bytes_of (A.text a) ++ (f ++ rest)) z in
        let (t', tail) = decode A unique a' a y c Y (l ++ rest) ends (first_ends a t front more h e c l z) (v ∙ split) in
        bad b x beh rest k (u ∙ (tail ∙ ap (λ f. f ++ rest) (sym z)))

    closed_then : (a : A.Of) (b : B.Of) (t : List ℕ) → Closed B b t → Closed (then A B) (a, b) t
    closed_then a b [] h = tt
    closed_then a b (c ∷ t) h = h

    -- With an A before it, what is found of a B is found of the two.
    pub then_found : (s : List ℕ) (i j : ℕ) (a : A.Of) (o : Found B.Of) → Finds A s i (read a j) → Finds B s j o → Finds (then A B) s i (behind a o)
    then_found s i j a o (reads _ _ r h) (reads b k q g) = reads (a, b) k (runs_append s i j k (A.text a) (B.text b) r q) (closed_then a b (drop k s) g)
    then_found s i j a o (reads _ _ r h) (sinks k b w x n rest beh e q m z) =
        sinks k (a, b) (A.text a ++ w) x n rest beh (ap (λ t. A.text a ++ t) e ∙ sym (append_assoc (A.text a) w ((x, n) ∷ rest))) (runs_append s i j k (A.text a) w r q) m z
    then_found s i j a o (reads _ _ r h) (fails k b w rest e q on bad) =
        fails k (a, b) (A.text a ++ w) rest (ap (λ t. A.text a ++ t) e ∙ sym (append_assoc (A.text a) w rest)) (runs_append s i j k (A.text a) w r q) on
        (λ x beh z. faulty w q x beh z (bad x beh z))
      where
        front_first : (w : Text) (x : ℕ) → (c : ℕ) × (l : List ℕ) × (bytes_of w ++ (x ∷ []) ≡ c ∷ l)
        front_first [] x = (x, [], refl)
        front_first (b ∷ w) x = (b.0, bytes_of w ++ (x ∷ []), refl)

        faulty : (w : Text) → Runs s j k w → (x : ℕ) (beh : List ℕ) → drop k s ≡ x ∷ beh → Fails B (bytes_of w ++ (x ∷ [])) → Fails (then A B) (bytes_of (A.text a ++ w) ++ (x ∷ []))
        faulty w q x beh z bad =
            let (c, l, u) = front_first w x in
            subst (Fails (then A B)) (sym (append_assoc (bytes_of (A.text a)) (bytes_of w) (x ∷ [])) ∙ ap (λ f. f ++ (x ∷ [])) (sym (bytes_append (A.text a) w)))
            (fails_right a (drop j s) (bytes_of w ++ (x ∷ [])) beh h (q.bytes ∙ (ap (λ t. bytes_of w ++ t) z ∙ sym (append_assoc (bytes_of w) (x ∷ []) beh))) c l u bad)

-- ---- bytes

-- The byte c stands at i; it does not.
abbrev pub Has : List ℕ → ℕ → ℕ → Type 0
Has s i c = drop i s ≡ c ∷ drop (i + 1) s

abbrev pub Misses : List ℕ → ℕ → ℕ → Type 0
Misses s i c = (b : ℕ) (t : List ℕ) → drop i s ≡ b ∷ t → b ≡ c → ⊥

module _ (s : List ℕ) (i c : ℕ) where
  pub has_byte : i < length s → get_or s i 0 ≡ c → Has s i c
  has_byte h e = drop-cons s i 0 h ∙ (ap (λ b. b ∷ drop (suc i) s) e ∙ (let z : suc i ≡ i + 1 = omega arith in ap (λ k. c ∷ drop k s) z))

  pub misses_past : length s ≤ i → Misses s i c
  misses_past h b t e k = let z = drop_of_length-le s h in clash (cc)

  pub misses_other : (get_or s i 0 ≡ c → ⊥) → Misses s i c
  misses_other n b t e k =
      n (let z : i + 0 ≡ i = omega arith in ap (λ x. get_or s x 0) (sym z) ∙ (sym (get_or-drop i s 0 0) ∙ (ap (λ l. get_or l 0 0) e ∙ k)))

module _ (s : List ℕ) (i c d : ℕ) where
  pub token_reads : d ≤ 16 → Has s i c → Finds (token d (c ∷ [])) s i (read tt (i + 1))
  token_reads h e = reads tt (i + 1) (runs_byte s i c d e h) (closed_token (drop (i + 1) s))
    where
      closed_token : (t : List ℕ) → Closed (token d (c ∷ [])) tt t
      closed_token [] = tt
      closed_token (b ∷ t) = tt

  pub token_misses : Misses s i c → Finds (token d (c ∷ [])) s i (wrong i)
  token_misses m = fails i tt [] ((c, d) ∷ []) refl (runs_none s i) (λ e n. clash (cc)) (λ b t e. λ u x beh rest h q. m b t e (sym (head-eq_of_cons-eq q)))

pub token_unique : (d : ℕ) (l : List ℕ) → Unique (token d l)
token_unique d l a a' x y X Y h k = inl refl

-- ---- one of several by its first byte

-- The found phrase as another.
abbrev pub found_as : {A B : Type 0} → (A → B) → Found A → Found B
found_as f (read a j) = read (f a) j
found_as f (wrong j) = wrong j
found_as f (deep j) = deep j

-- The phrases of Q are, by `into`, among those of P, and all of P that begin with the byte b.
pub record Starts (Q P : Phrase) (into : Q.Of → P.Of) (b : ℕ) : Type 0 where
  pub text : (q : Q.Of) → P.text (into q) ≡ Q.text q
  pub ends : (q : Q.Of) (c : ℕ) → Q.Ends q c → P.Ends (into q) c
  pub back : (p : P.Of) (c : ℕ) (beh rest : List ℕ) → P.Ends p c → bytes_of (P.text p) ++ (c ∷ beh) ≡ b ∷ rest → (q : Q.Of) × (P.text p ≡ Q.text q) × Q.Ends q c

module _ (Q P : Phrase) (into : Q.Of → P.Of) (b : ℕ) (st : Starts Q P into b) where
  closed_as : (q : Q.Of) (t : List ℕ) → Closed Q q t → Closed P (into q) t
  closed_as q [] h = tt
  closed_as q (c ∷ t) h = st.ends q c h

  fails_as : (front tail : List ℕ) → front ≡ b ∷ tail → Fails Q front → Fails P front
  fails_as front tail e bad p c beh rest h q =
      let (x, t, k) = st.back p c beh (tail ++ rest) h (q ∙ ap (λ f. f ++ rest) e) in
      bad x c beh rest k (ap (λ w. bytes_of w ++ (c ∷ beh)) (sym t) ∙ q)

  pub starts_found : (s : List ℕ) (i : ℕ) (o : Found Q.Of) → Has s i b → Finds Q s i o → Finds P s i (found_as (into) o)
  starts_found s i o has (reads q j r h) = reads (into q) j (subst (Runs s i j) (sym (st.text q)) r) (closed_as q (drop j s) h)
  starts_found s i o has (sinks j q w x n rest beh e r m z) = sinks j (into q) w x n rest beh (st.text q ∙ e) r m z
  starts_found s i o has (fails j q w rest e r on bad) =
      fails j (into q) w rest (st.text q ∙ e) r on (λ x beh z. faulty w r x beh z (bad x beh z))
    where
      first : (w : Text) (x : ℕ) (beh rest : List ℕ) → bytes_of w ++ (x ∷ beh) ≡ b ∷ rest → (tail : List ℕ) × (bytes_of w ++ (x ∷ []) ≡ b ∷ tail)
      first [] x beh rest e = ([], (let k : x ≡ b = head-eq_of_cons-eq e in cc))
      first (y ∷ w) x beh rest e = (bytes_of w ++ (x ∷ []), (let k : y.0 ≡ b = head-eq_of_cons-eq e in cc))

      faulty : (w : Text) → Runs s i j w → (x : ℕ) (beh : List ℕ) → drop j s ≡ x ∷ beh → Fails Q (bytes_of w ++ (x ∷ [])) → Fails P (bytes_of w ++ (x ∷ []))
      faulty w r x beh z bad =
          let (tail, u) = first w x beh (drop (i + 1) s) (ap (λ t. bytes_of w ++ t) (sym z) ∙ (sym r.bytes ∙ has)) in
          fails_as (bytes_of w ++ (x ∷ [])) tail u bad

-- ---- first bytes

pub begins_append : (w v : Text) → (y : ℕ × ℕ) × (Y : Text) × (w ≡ y ∷ Y) → (y : ℕ × ℕ) × (Y : Text) × (w ++ v ≡ y ∷ Y)
begins_append w v (y, Y, e) = (y, Y ++ v, ap (λ t. t ++ v) e)

pub begins_token : (d c : ℕ) (l : List ℕ) → Begins (token d (c ∷ l))
begins_token d c l u = ((c, d), nested d l, refl)

pub begins_then : (A B : Phrase) → Begins A → Begins (then A B)
begins_then A B b (p, q) = begins_append (A.text p) (B.text q) (b p)

pub follows_token : (d : ℕ) (l : List ℕ) (P : Phrase) → Begins P → Follows (token d l) P
follows_token d l P b u p = let (y, Y, e) = b p in (y, Y, e, tt)
