-- A word that is found is that of the message; one that is not is new. The pairs of a list, entered from the last to the first.
use mathlib.Core.Path.{◌≡◌, refl, sym, ◌∙◌, ap, subst}
use mathlib.Core.Logic.{inl, inr}
use mathlib.Core.Bool.{Bool, true, false, cond}
use mathlib.Core.List.Memᴰ
use mathlib.Core.List.{List, [], ◌∷◌, ◌++◌, Memᴰ}
use Rattle.std.specs.Prelude.{Some, None}
use Prim.Native.Nat.{ℕ, ◌+◌, ◌≤◌, ◌<◌}
use native.Mathlib.Omega.{arith}
use native.Mathlib.Numerals.{add-one}
use lib.Dec.{ltb}
use lib.ListN.{length, get_or, set, drop, take, take-append-drop, length-set, drop_of_length-le}
use lib.Seq.{get_or-set_same, get_or-set_other, drop-cons}
use borrow.Author.Tests.{ltb-true, ltb-false}
use Rattle.model.specs.Message.{App}
use Rattle.model.specs.Case.{PR}
use Rattle.model.specs.Stored.{word_of}
use Rattle.model.proofs.Listed.{true_false, length_snoc}
use Rattle.grammar.specs.Typed.{Typed, name, variable, one, two}
use Rattle.grammar.specs.Filed.{enter, entered, place}
use Rattle.grammar.proofs.Trees.{enter_old, enter_new, enter_in, place_in, place_append, place_new, entered_append, entered_one}
use Rattle.grammar.proofs.Filed.{at_in, Where, old, past, where_at}
use Rattle.grammar.proofs.Entering.{place_found}
use Rattle.typing.specs.declared.store.Store.{Store}
use Rattle.typing.specs.declared.store.Items.{Items}
use Rattle.typing.specs.Store.{In, Ready, Sound, none, new, key_of, WordsOf, Stored, fits, over, Put, put, PutAt, FoundAt, added, Enters, or_full, Listed, whole, many, right_of, pairs_of, AllIn, PairsUp}
use Rattle.typing.proofs.Trees.{sound_grown, Grows, enter_grows, entered_grows, grows_in, grows_place, grows_length, sound_enter, sound_ready}
use Rattle.typing.proofs.Keys.{key_same, key_grows}

-- ---- one message

-- With more than 128 messages there are more than 128 after one more.
over_enter : (trees : List Typed) (t : Typed) → 128 < length trees → 128 < length (enter trees t)
over_enter trees t h = (let l = grows_length (enter_grows trees t) in omega arith)

module _ (s : Store) (word : ℕ) where
  pub put_found : (c : ℕ) → c < s.count → get_or s.words c 0 ≡ word → Enters s word (record { store = s; cell = c })
  put_found c l e trees t sound ready (over f h) k = record { stored = over f (over_enter trees t h); cell = λ g. true_false f g }
  put_found c l e trees t sound ready (fits f h) k =
      let i : c < length trees = omega (arith, h.counts) in
      let z : get_or trees c (name 0) ≡ t = key_same trees h.room (get_or trees c (name 0)) t (sound_ready sound (get_or trees c (name 0)) (at_in trees c i)) ready (sym (h.keys c i) ∙ (e ∙ k f)) in
      let (m, w) = place_found (sound_grown sound) t c i z in
      let same : enter trees t ≡ trees = enter_old trees t m in
      record { stored = subst (λ l. Stored l s) (sym same) (fits f h); cell = λ g. sym (ap (λ l. place l t) same ∙ w) }

  pub put_new : ((c : ℕ) → c < s.count → c < 128 → get_or s.words c 0 ≡ word → ⊥) → Enters s word (added s word)
  put_new bad trees t sound ready stored k = go (ltb s.count 128) refl stored
    where
      short : Store
      short = record { words = s.words; count = s.count; full = true }

      long : Store
      long = record { words = set s.words s.count word; count = s.count + 1; full = s.full }

      go : (b : Bool) → ltb s.count 128 ≡ b → Stored trees s → PutAt (enter trees t) t (cond b (record { store = long; cell = s.count }) (record { store = short; cell = 0 }))
      go true e (over f h) = record { stored = over f (over_enter trees t h); cell = λ g. true_false f g }
      go false e (over f h) = record { stored = over refl (over_enter trees t h); cell = λ g. true_false refl g }
      go b e (fits f h) = put b e
        where
          fresh : In trees t → ⊥
          fresh i = let (l, z) = place_in trees t i in bad (place trees t) (omega (arith, h.counts)) (omega (arith, h.room)) (h.keys (place trees t) l ∙ (ap (key_of trees) z ∙ sym (k f)))

          after : enter trees t ≡ trees ++ (t ∷ [])
          after = enter_new trees t fresh

          g : Grows trees (trees ++ (t ∷ []))
          g = record { more = t ∷ []; whole = refl }

          size : length (trees ++ (t ∷ [])) ≡ length trees + 1
          size = length_snoc trees t

          keys : s.count < 128 → (c : ℕ) → c < length (trees ++ (t ∷ [])) → get_or (set s.words s.count word) c 0 ≡ key_of (trees ++ (t ∷ [])) (get_or (trees ++ (t ∷ [])) c (name 0))
          keys room c l = elim (where_at trees t c) [
            | old i z ↦ (let n : c ≡ s.count → ⊥ = λ x. absurd (omega (arith, h.counts)) in
                get_or-set_other s.words s.count c word 0 n ∙ (h.keys c i ∙ (sym (key_grows g (get_or trees c (name 0)) (sound_ready sound (get_or trees c (name 0)) (at_in trees c i))) ∙ ap (key_of (trees ++ (t ∷ []))) (sym z))))
            | Where.new i z ↦ (let n : c ≡ s.count = omega (arith, h.counts) in
                ap (λ x. get_or (set s.words s.count word) x 0) n ∙ (get_or-set_same s.words s.count word 0 (omega (arith, h.long)) ∙ (k f ∙ (sym (key_grows g t ready) ∙ ap (key_of (trees ++ (t ∷ []))) (sym z)))))
            | past z i ↦ absurd (omega (arith, size))
          ]

          put : (b : Bool) → ltb s.count 128 ≡ b → PutAt (enter trees t) t (cond b (record { store = long; cell = s.count }) (record { store = short; cell = 0 }))
          put true e =
              let room : s.count < 128 = ltb-true s.count 128 e in
              let held : WordsOf (trees ++ (t ∷ [])) long.words long.count = record {
                counts = omega (arith, h.counts, size);
                room = omega (arith, h.counts, size);
                long = length-set s.words s.count word ∙ h.long;
                keys = keys room;
              } in
              record { stored = subst (λ l. Stored l long) (sym after) (fits f held); cell = λ _. h.counts ∙ (sym (place_new trees t fresh) ∙ ap (λ l. place l t) (sym after)) }
          put false e =
              let past : 128 ≤ s.count = ltb-false s.count 128 e in
              record { stored = subst (λ l. Stored l short) (sym after) (over refl (omega (arith, h.counts, size))); cell = λ x. true_false refl x }

module _ (s : Store) (word : ℕ) where
  pub put_at : (c : ℕ) → FoundAt s.words s.count word (Some c) → Enters s word (put s c)
  put_at c f = put_found s word c f.0 f.2

  pub put_nowhere : (p : Put) → FoundAt s.words s.count word None → p ≡ added s word → Enters s word p
  put_nowhere p f w = subst (Enters s word) (sym w) (put_new s word f)

-- ---- the pairs of a list

last_entered : (trees ts : List Typed) (t : Typed) → entered trees (ts ++ (t ∷ [])) ≡ enter (entered trees ts) t
last_entered trees ts t = entered_append trees ts (t ∷ []) ∙ entered_one (entered trees ts) t

abbrev height : Typed → ℕ
height (name n) = 0
height (variable n) = 0
height (one g t) = height t + 1
height (two h t u) = height u + 1

-- Along the last parts a message stands behind as many others as it is high.
height_place : {trees : List Typed} → Sound trees → (t : Typed) → In trees t → height t ≤ place trees t
height_place none t m = absurd (Memᴰ.not-nil m)
height_place (new {trees = l} u s r n) t m = elim (Memᴰ.append_cases l m) [
  | inl i ↦ (let e = place_append l (u ∷ []) t i in let k = height_place s t i in omega arith)
  | inr i ↦ subst (λ x. height x ≤ place (l ++ (u ∷ [])) x) (sym (Memᴰ.eq_of_singleton i)) (let e = place_new l u n in let k = low (λ x y. height_place s x y) u r in omega arith)
]
  where
    low : ((t : Typed) → In l t → height t ≤ place l t) → (u : Typed) → Ready l u → height u ≤ length l
    low ih (name n) r = omega arith
    low ih (variable n) r = omega arith
    low ih (one (App f) t) (h, i) = (let k = ih t i in let z = (place_in l t i).0 in omega arith)
    low ih (two f t v) (i, j) = (let k = ih v j in let z = (place_in l v j).0 in omega arith)

pairs_height : (us : List Typed) (t : Typed) → length us ≤ height (right_of us t)
pairs_height [] t = omega arith
pairs_height (u ∷ us) t = (let h = pairs_height us t in omega arith)

-- The pairs of messages that stand there.
pub pairs_sound : (us : List Typed) (t : Typed) (trees : List Typed) → Sound trees → AllIn trees us → In trees t →
    Sound (entered trees (pairs_of us t)) × In (entered trees (pairs_of us t)) (right_of us t)
unfolding entered
pairs_sound [] t trees s a i = (s, i)
pairs_sound (u ∷ us) t trees s a i =
    let (p, q) = pairs_sound us t trees s (λ x m. a x (Memᴰ.tail m)) i in
    let l = entered trees (pairs_of us t) in
    rw (last_entered trees (pairs_of us t) (right_of (u ∷ us) t))
    (sound_enter l (right_of (u ∷ us) t) p (grows_in (entered_grows trees (pairs_of us t)) u (a u (Memᴰ.head refl)), q), enter_in l (right_of (u ∷ us) t))

-- More than 128 commas are more than 128 cells.
pairs_many : (us : List Typed) (t : Typed) (trees : List Typed) → Sound trees → AllIn trees us → In trees t → 128 < length us → 128 < length (entered trees (pairs_of us t))
pairs_many us t trees s a i h =
    let (p, q) = pairs_sound us t trees s a i in
    let k = height_place p (right_of us t) q in
    let l = (place_in (entered trees (pairs_of us t)) (right_of us t) q).0 in
    let m = pairs_height us t in
    omega arith

-- The pairs of the items from i on are entered.
abbrev pub PairedFrom : Store → Items → ℕ → ℕ → Store → ℕ → Type 0
PairedFrom s items last i after cell = items.more ≡ false → (trees us : List Typed) (t : Typed) → Sound trees → AllIn trees us → In trees t → Stored trees s →
    (s.full ≡ false → (last ≡ place trees t) × Listed trees us items) → PutAt (entered trees (pairs_of (drop i us) t)) (right_of (drop i us) t) (record { store = after; cell = cell })

pub stored_full : {trees : List Typed} {s : Store} → Stored trees s → 128 < length trees → s.full ≡ true
stored_full (over f h) l = f
stored_full (fits f h) l = absurd (omega (arith, h.room))

pub full_entered : (trees ts : List Typed) → 128 < length trees → 128 < length (entered trees ts)
full_entered trees ts h = (let l = grows_length (entered_grows trees ts) in omega arith)

module _ (s : Store) (items : Items) (last : ℕ) where
  pub paired_start : PairedFrom s items last items.count s last
  unfolding entered
  paired_start nm trees us t sound all i (over f h) k = record { stored = over f (full_entered trees (pairs_of (drop items.count us) t) h); cell = λ g. true_false f g }
  paired_start nm trees us t sound all i (fits f h) k = go (k f).0 (k f).1
    where
      go : last ≡ place trees t → Listed trees us items → PutAt (entered trees (pairs_of (drop items.count us) t)) (right_of (drop items.count us) t) (record { store = s; cell = last })
      go e (many m l c) = true_false m nm
      go e (whole m c few long cells) =
          subst (λ l. PutAt (entered trees (pairs_of l t)) (right_of l t) (record { store = s; cell = last })) (sym (drop_of_length-le us {i = items.count} (omega arith)))
          (record { stored = fits f h; cell = λ g. e })

  pub paired_step : (i j : ℕ) (after : Store) (cell : ℕ) (p : Put) (word : ℕ) → j ≡ i + 1 → i < items.count → PairedFrom s items last j after cell → word ≡ word_of (PR (get_or items.cells i 0) cell) →
      Enters after word p → PairedFrom s items last i p.store p.cell
  paired_step i at after cell p word n lt from e put nm trees us t sound all j stored k = go stored
    where
      behind : List Typed
      behind = drop (i + 1) us

      l : List Typed
      l = entered trees (pairs_of behind t)

      q : PutAt l (right_of behind t) (record { store = after; cell = cell })
      q = subst (λ x. PairedFrom s items last x after cell) n from nm trees us t sound all j stored k

      all_behind : AllIn trees behind
      all_behind u m = all u (subst (Memᴰ u) (take-append-drop (i + 1) us) (Memᴰ.append_right (take (i + 1) us) m))

      next : last ≡ place trees t → Listed trees us items → PutAt (entered trees (pairs_of (drop i us) t)) (right_of (drop i us) t) (record { store = p.store; cell = p.cell })
      next f (many m x c) = true_false m nm
      next f (whole m c few long cells) =
          let u : Typed = get_or us i (name 0) in
          let h : i < length us = omega arith in
          let d : drop i us ≡ u ∷ behind = drop-cons us i (name 0) h ∙ ap (λ x. u ∷ drop x us) (sym (add-one i)) in
          let (a, b) = pairs_sound behind t trees sound all_behind j in
          let g = entered_grows trees (pairs_of behind t) in
          let w = put l (right_of (u ∷ behind) t) a (grows_in g u (all u (at_in us i h)), b) q.stored (λ x. word_of_lem u (grows_place g u (all u (at_in us i h))) (cells i h) (q.cell x)) in
          subst (λ ds. PutAt (entered trees (pairs_of ds t)) (right_of ds t) p) (sym d) (subst (λ o. PutAt o (right_of (u ∷ behind) t) p) (sym (last_entered trees (pairs_of behind t) (right_of (u ∷ behind) t))) w)
        where
          word_of_lem : (u : Typed) → place l u ≡ place trees u → get_or items.cells i 0 ≡ place trees u → cell ≡ place l (right_of behind t) → word ≡ key_of l (right_of (u ∷ behind) t)
          word_of_lem u x y z =
              let v : word_of (PR (get_or items.cells i 0) cell) ≡ word_of (PR (place l u) (place l (right_of behind t))) = cc in
              e ∙ (v ∙ (omega arith))

      go : Stored trees s → PutAt (entered trees (pairs_of (drop i us) t)) (right_of (drop i us) t) (record { store = p.store; cell = p.cell })
      go (fits f h) = next (k f).0 (k f).1
      go (over f h) =
          let m : 128 < length l = full_entered trees (pairs_of behind t) h in
          let a = (pairs_sound behind t trees sound all_behind j).0 in
          let w = put l (name 0) a (omega arith) q.stored (λ x. true_false (stored_full q.stored m) x) in
          let o : p.store.full ≡ true = stored_full w.stored (over_enter l (name 0) m) in
          record { stored = over o (full_entered trees (pairs_of (drop i us) t) h); cell = λ x. true_false o x }

  pub paired_all : (after : Store) (cell : ℕ) (r : Store) → PairedFrom s items last 0 after cell → r ≡ or_full after items.more → PairsUp s items last (record { store = r; cell = cell })
  paired_all after cell r from w trees us t sound all i stored k m = subst (λ x. PutAt (entered trees (pairs_of us t)) (right_of us t) (record { store = x; cell = cell })) (sym w) (go items.more refl)
    where
      go : (b : Bool) → items.more ≡ b → PutAt (entered trees (pairs_of us t)) (right_of us t) (record { store = or_full after b; cell = cell })
      go true e = record { stored = over refl (pairs_many us t trees sound all i (m e)); cell = λ g. true_false refl g }
      go false e = from e trees us t sound all i stored k
