-- What is built under values that satisfy the classes is composed of the messages of cells that are seen.
-- `Seen` is any set of cells that holds the learnt ones and is closed as asked below.
use mathlib.Core.Path.{◌≡◌, refl, sym, ◌∙◌, subst}
use mathlib.Core.Logic.{◌⊎◌, inl, inr}
use mathlib.Core.Option.{some}
use Prim.Native.Nat.{ℕ, ◌≤◌, ◌<◌}
use native.Mathlib.Omega.{arith}
use Rattle.model.specs.Message.{Message, Made, Opens, Built}
use Rattle.model.specs.Case.{Cell, AT, VA, MK, LN, Table, Run, look, Reads, Part, Learnt, Known, Makable}
use Rattle.theory.specs.Cells.{Makes, Opening, Formed}
use Rattle.theory.specs.Classes.{Likes, Alike, Sat}
use Rattle.theory.specs.Level.{Kin, Occ}
use Rattle.model.proofs.Rows.{no_part}
use Rattle.model.proofs.Finite.{eq?}
use Rattle.model.proofs.Steps.{Comp, comp_more, opens_made, opens_atom}
use Rattle.model.proofs.Read.{strong, var?, look_is}
use Rattle.theory.proofs.Parts.{made_look, makes_only, opening_part}
use Rattle.theory.proofs.Classes.{look_alike}
use Rattle.theory.proofs.Level.{shut?, class_reads, class_keys}

module _ (T : Table) (rep : ℕ → ℕ) (ev : Run) where
  -- The class y stands in a cell learnt before q; every free class in e does.
  abbrev pub Heard : ℕ → ℕ → Type 0
  Heard q y = (c : ℕ) × Learnt ev q c × Occ T rep y c

  abbrev pub Before : ℕ → ℕ → Type 0
  Before q e = (y : ℕ) → T (rep y) ≡ VA → Occ T rep y e → Heard q y

  module _ (Seen : ℕ → Type 0) (m : ℕ → Message) where
    -- The messages composed of those, under m, of cells that are seen, are not free, and hold only free classes heard before q.
    abbrev pub X : ℕ → Message → Type 0
    X q = Comp (λ x. (e : ℕ) × Seen e × (T (rep e) ≡ VA → ⊥) × Before q e × (x ≡ m e))

    X_later : {q r : ℕ} {x : Message} → q ≤ r → X q x → X r x
    X_later le = comp_more (λ x (e, h, s, b, i). (e, h, s, λ y v o. (let (c, (l, lt, k), o') = b y v o in (c, (l, omega arith, k), o')), i))

    -- The free classes that are seen and were heard before q are in X.
    abbrev pub Avail : ℕ → Type 0
    Avail q = (y : ℕ) → Seen y → T (rep y) ≡ VA → Heard q y → X q (m y)

    -- A part of a seen cell e, itself seen, is in X.
    pub part_X : {q e d : ℕ} → Avail q → Before q e → Part (T (rep e)) d → Seen d → X q (m d)
    part_X {q} {e} {d} avail b h s =
        let b' : Before q d = λ y v o. b y v (Occ.down h o) in
        elim (var? (T (rep d))) [ inl v ↦ avail d s v (b' d v (Occ.here refl)) | inr n ↦ Comp.base (d, s, n, b', refl) ]

    -- c is the own name, or is made of cells in X.
    abbrev pub Composed : ℕ → ℕ → Type 0
    Composed q c = (T (rep c) ≡ AT 0) ⊎ ((i : ℕ) × (j : ℕ) × Makes (T (rep c)) i j × X q (m i) × X q (m j))

    pub composed_part : {q c d : ℕ} → Composed q c → Part (T (rep c)) d → X q (m d)
    composed_part {d = d} (inl e) h = absurd (no_part (subst (λ k. Part k d) e h))
    composed_part {q} (inr (i, j, k, z, w)) h = elim (makes_only k h) [ inl e ↦ subst (λ d. X q (m d)) (sym e) z | inr e ↦ subst (λ d. X q (m d)) (sym e) w ]

    -- c is composed, or is of one class, or else of one kind and message, with a cell that is seen.
    abbrev pub Down : ℕ → ℕ → Type 0
    Down q c = Composed q c ⊎ ((e : ℕ) × Seen e × Before q e × ((rep c ≡ rep e) ⊎
        ((rep c ≡ rep e → ⊥) × Kin (T (rep c)) (T (rep e)) × Alike m (T (rep c)) (T (rep e)) × (m c ≡ m e))))

    module _ (mr : Reads T m m) (ms : Sat rep m) (names : (c d n : ℕ) → T (rep c) ≡ AT n → T (rep d) ≡ AT n → rep c ≡ rep d)
        (alone : (c d : ℕ) → Opening (λ c. T (rep c)) c c d → Seen c → Seen d) where
      shape : (c : ℕ) → m c ≡ look (m c) m (T (rep c))
      shape = class_reads T rep m mr ms

      -- One step down from a cell whose message is in X.
      pub down_X : {q : ℕ} → Avail q → {x : Message} → X q x → (c : ℕ) → m c ≡ x → (T (rep c) ≡ VA → ⊥) → Down q c
      down_X avail Comp.own c e s = inl (inl (look_is (m c) m (T (rep c)) s (sym (shape c) ∙ e)))
      down_X {q} avail (Comp.makes {a = a} {b = b} t z w) c e s =
          let (i, j, k, ei, ej) = made_look (m c) m (T (rep c)) s (subst (λ x. Made x a b) (sym e ∙ shape c) t) in
          inl (inr (i, j, k, subst (X q) (sym ei) z, subst (X q) (sym ej) w))
      down_X {q} avail (Comp.base (g, h, sg, b, i)) c e s = elim (eq? (rep c) (rep g)) [
        | inl one ↦ inr (g, h, b, inl one)
        | inr two ↦ go two alike refl refl
      ]
        where
          alike : Alike m (T (rep c)) (T (rep g))
          alike = look_alike m m (m c) (m g) (T (rep c)) (T (rep g)) s sg (sym (shape g) ∙ (sym (e ∙ i) ∙ shape c))

          kin : {k k' : Cell} → (rep c ≡ rep g → ⊥) → T (rep c) ≡ k → T (rep g) ≡ k' → Kin k k' → Down q c
          kin {k} two ec eg h' = inr (g, h, b, inr (two, subst (λ k. Kin k (T (rep g))) (sym ec) (subst (Kin k) (sym eg) h'), alike, e ∙ i))

          go : {k k' : Cell} → (rep c ≡ rep g → ⊥) → Alike m k k' → T (rep c) ≡ k → T (rep g) ≡ k' → Down q c
          go two Likes.atoms ec eg = absurd (two (names c g _ ec eg))
          go two (Likes.ones j) ec eg = kin two ec eg Kin.ones
          go two (Likes.twos {t = t} {l = l} {r = r} {l' = l'} {r' = r'} j j') ec eg = elim (shut? {S = λ c. T (rep c)} t eg) [
            | inl sh ↦ kin two ec eg (Kin.twos sh)
            | inr (ol, or) ↦ inl (inr (
              l,
              r,
              subst (λ k. Makes k l r) (sym ec) Makes.twos,
              subst (X q) (sym j) (part_X avail b (opening_part ol) (alone g l' ol h)),
              subst (X q) (sym j') (part_X avail b (opening_part or) (alone g r' or h)),
            ))
          ]

    module _ (p : ℕ) (ok : Formed T) (mr : Reads T m m) (ms : Sat rep m) (learnt : (c : ℕ) → Learnt ev p c → Seen c)
        (opens : (q : ℕ) → Avail q → (c k d : ℕ) → Opening (λ c. T (rep c)) c k d → Seen c → X q (m k) → Seen d) where
      -- X holds what is built from what was learnt before q,
      module _ (q : ℕ) (le : q ≤ p) (avail : Avail q) where
        X_opens : {x k y : Message} → Opens x k y → X q x → X q k → X q y
        X_opens o Comp.own key = absurd (opens_atom o)
        X_opens o (Comp.base (g, h, s, b, i)) key =
            let (k, d, t, ek, ed) = (class_keys T rep m mr ms ok).able g s (sym i) o in
            subst (X q) ed (part_X avail b (opening_part t) (opens q avail g k d t h (subst (X q) (sym ek) key)))
        X_opens o (Comp.makes t z w) key = elim (opens_made o t) [ inl e ↦ subst (X q) (sym e) z | inr e ↦ subst (X q) (sym e) w ]

        known_X : (c : ℕ) → Learnt ev q c → X q (m c)
        known_X c (l, lt, i) = elim (var? (T (rep c))) [
          | inl v ↦ avail c (learnt c (l, omega arith, i)) v (c, (l, lt, i), Occ.here refl)
          | inr n ↦ Comp.base (c, learnt c (l, omega arith, i), n, λ y v o. (c, (l, lt, i), o), refl)
        ]

        built_X : {x : Message} → Built (Known ev m q) x → X q x
        built_X Built.own = Comp.own
        built_X (Built.known (c, h, e)) = subst (X q) (sym e) (known_X c h)
        built_X (Built.makes t a b) = Comp.makes t (built_X a) (built_X b)
        built_X (Built.opens o a b) = X_opens o (built_X a) (built_X b)

      -- if the free classes can be got from what is to be made.
      module _ (right : Makable ev m) (made : (y : ℕ) → T (rep y) ≡ VA → (l c : ℕ) → ev l ≡ some (LN c) → Occ T rep y c → (q : ℕ) × (t : ℕ) × (q < l) × (ev q ≡ some (MK t)) × Occ T rep y t)
          (bind : (q : ℕ) → q < p → Avail q → (y t : ℕ) → Seen y → T (rep y) ≡ VA → ev q ≡ some (MK t) → Occ T rep y t → X q (m t) → X q (m y)) where
        heard_X : (q : ℕ) → q ≤ p → Avail q
        heard_X = strong (λ q. q ≤ p → Avail q) (λ q ih le y h v (c, (l, lt, i), o).
            let (r, t, lt', j, w) = made y v l c i o in
            let avail = ih r (omega arith) (omega arith) in
            X_later (omega arith) (bind r (omega arith) avail y t h v j w (built_X r (omega arith) avail (right r t j))))

        pub all_X : Avail p × ((t : ℕ) → ev p ≡ some (MK t) → X p (m t))
        all_X = (let avail = heard_X p (omega arith) in (avail, λ t e. built_X p (omega arith) avail (right p t e)))
