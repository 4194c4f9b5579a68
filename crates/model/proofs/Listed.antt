-- Laws of lists: what a list with one more element has at a place, members and their places, a test of some member, and text stored behind text.
use mathlib.Core.Path.{◌≡◌, refl, ◌∙◌, ap}
use mathlib.Core.Logic.{◌⊎◌, inl, inr}
use mathlib.Core.Bool.{Bool, true, false, cond}
use mathlib.Core.Option.{some}
use mathlib.Core.List.{List, [], ◌∷◌, ◌++◌, Memᴰ}
use Prim.Native.Nat.{ℕ, zero, suc, ◌+◌, ◌<◌, ◌≤◌}
use native.Mathlib.Omega.{arith}
use lib.ListN.{length, get_or, get_elem?, drop, set, length-append}
use lib.Seq.{sets, sets-eq}
use Rattle.model.specs.Format.{any_of}
use Rattle.model.proofs.Read.{clash}

pub bool? : (b : Bool) → (b ≡ true) ⊎ (b ≡ false)
bool? true = inl refl
bool? false = inr refl

pub true_false {ℓ} : {A : Type ℓ} {b : Bool} → b ≡ true → b ≡ false → A
true_false p q = clash (cc)

module _ {A : Type 0} where
  -- One more element.
  pub length_snoc : (l : List A) (x : A) → length (l ++ (x ∷ [])) ≡ length l + 1
  length_snoc l x = length-append l (x ∷ [])

  -- At any place stands the new element, and that is the place behind the others, or what stood there before.
  pub get_d_snoc : (l : List A) (x d : A) (i : ℕ) → ((i ≡ length l) × (get_or (l ++ (x ∷ [])) i d ≡ x)) ⊎ (get_or (l ++ (x ∷ [])) i d ≡ get_or l i d)
  get_d_snoc [] x d zero = inl (refl, refl)
  get_d_snoc [] x d (suc i) = inr refl
  get_d_snoc (y ∷ l) x d zero = inr refl
  get_d_snoc (y ∷ l) x d (suc i) = elim (get_d_snoc l x d i) [ inl (e, h) ↦ inl (omega arith, h) | inr h ↦ inr h ]

  pub elem_snoc : (l : List A) (x : A) (i : ℕ) → ((i ≡ length l) × (get_elem? (l ++ (x ∷ [])) i ≡ some x)) ⊎ (get_elem? (l ++ (x ∷ [])) i ≡ get_elem? l i)
  elem_snoc [] x zero = inl (refl, refl)
  elem_snoc [] x (suc i) = inr refl
  elem_snoc (y ∷ l) x zero = inr refl
  elem_snoc (y ∷ l) x (suc i) = elim (elem_snoc l x i) [ inl (e, h) ↦ inl (omega arith, h) | inr h ↦ inr h ]

  -- What stands in a list stands in a longer one.
  pub elem_append : (l m : List A) (i : ℕ) (x : A) → get_elem? l i ≡ some x → get_elem? (l ++ m) i ≡ some x
  elem_append [] m i x e = clash (cc)
  elem_append (y ∷ l) m zero x e = e
  elem_append (y ∷ l) m (suc i) x e = elem_append l m i x e

  pub elem_get_d : (l : List A) (i : ℕ) (d : A) → i < length l → get_elem? l i ≡ some (get_or l i d)
  elem_get_d [] i d h = absurd (omega arith)
  elem_get_d (y ∷ l) zero d h = refl
  elem_get_d (y ∷ l) (suc i) d h = elem_get_d l i d (omega arith)

  -- Members are what stands at some place.
  pub member_place : {x : A} {l : List A} → Memᴰ x l → (i : ℕ) × (i < length l) × (get_elem? l i ≡ some x)
  member_place (Memᴰ.head e) = (0, omega arith, cc)
  member_place (Memᴰ.tail m) = let (i, h, e) = member_place m in (suc i, omega arith, e)

  pub place_member : (l : List A) (i : ℕ) (x : A) → get_elem? l i ≡ some x → Memᴰ x l
  place_member [] i x e = clash (cc)
  place_member (y ∷ l) zero x e = let i : x ≡ y = cc in Memᴰ.head i
  place_member (y ∷ l) (suc i) x e = Memᴰ.tail (place_member l i x e)

  -- A test of some member: it is true if one passes, and false if none does.
  pub any_some : (test : A → Bool) (l : List A) → any_of test l ≡ true → (x : A) × Memᴰ x l × (test x ≡ true)
  unfolding any_of
  any_some test [] e = clash (cc)
  any_some test (y ∷ l) e = go (any_some test l) (test y) refl e
    where
      go : (any_of test l ≡ true → (x : A) × Memᴰ x l × (test x ≡ true)) → (b : Bool) → test y ≡ b → cond b true (any_of test l) ≡ true → (x : A) × Memᴰ x (y ∷ l) × (test x ≡ true)
      go more true h i = (y, Memᴰ.head refl, h)
      go more false h i = let (x, m, t) = more i in (x, Memᴰ.tail m, t)

  pub some_any : (test : A → Bool) {x : A} {l : List A} → Memᴰ x l → test x ≡ true → any_of test l ≡ true
  unfolding any_of
  some_any test {x} {l} (Memᴰ.head {x = y} {xs = r} e) h = go (test y) (cc)
    where
      go : (b : Bool) → b ≡ true → cond b true (any_of test r) ≡ true
      go true i = refl
      go false i = clash (cc)
  some_any test (Memᴰ.tail {x = y} {xs = r} m) h = go (test y) (some_any test m h)
    where
      go : (b : Bool) → any_of test r ≡ true → cond b true (any_of test r) ≡ true
      go true i = refl
      go false i = i

  pub any_none : (test : A → Bool) (l : List A) → any_of test l ≡ false → (x : A) → Memᴰ x l → test x ≡ false
  any_none test l e x m = elim (bool? (test x)) [ inl h ↦ true_false (some_any test m h) e | inr h ↦ h ]

  pub none_any : (test : A → Bool) (l : List A) → ((x : A) → Memᴰ x l → test x ≡ false) → any_of test l ≡ false
  none_any test l h = elim (bool? (any_of test l)) [ inl e ↦ (let (x, m, t) = any_some test l e in true_false t (h x m)) | inr e ↦ e ]

-- ---- text stored behind text

pub sets_append : (vs l ws : List ℕ) (i at : ℕ) → at ≡ i + length vs → sets (sets l i vs) at ws ≡ sets l i (vs ++ ws)
sets_append [] l ws i at e = (let z : at ≡ i = omega arith in ap (λ k. sets l k ws) z)
sets_append (v ∷ vs) l ws i at e = sets_append vs (set l i v) ws (suc i) at (omega arith)

pub sets_front : (vs l : List ℕ) → length vs ≤ length l → sets l 0 vs ≡ vs ++ drop (length vs) l
sets_front vs l h = (let z : 0 + length vs ≡ length vs = omega arith in sets-eq vs l 0 (omega arith) ∙ ap (λ k. vs ++ drop k l) z)
