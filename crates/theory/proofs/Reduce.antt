-- The reduced file is a function of what is built: there is one at most.
use mathlib.Core.Path.{◌≡◌, refl, sym, ◌∙◌, subst}
use mathlib.Core.Logic.{◌↔◌, inl, inr}
use mathlib.Core.List.Memᴰ
use mathlib.Core.List.{List, ◌∷◌, Memᴰ}
use Prim.Native.Nat.{ℕ, ◌≤◌, ◌<◌}
use native.Mathlib.Omega.{arith}
use native.Mathlib.Decide.{dec_lt}
use Rattle.model.specs.Message.{Message, atom, Built}
use Rattle.model.specs.Case.{VA, Table, Part, Ground}
use Rattle.model.specs.Reduce.{Rest, height, Inside, key, Lists, none, Rising, more, Reduces}
use Rattle.model.proofs.Read.{strong}
use Rattle.theory.proofs.Classes.{look_alike, alike_parts, alike_equal}
use Rattle.theory.proofs.Bare.{rest_same}

-- Cells of the tables T and T' that show one message are equal, if such parts have one number.
module _ (T T' : Table) (m m' : ℕ → Message) (reads : Ground T m) (reads' : Ground T' m') where
  rows : (c c' : ℕ) → (T c ≡ VA → ⊥) → (T' c' ≡ VA → ⊥) → m c ≡ m' c' → ((d d' : ℕ) → Part (T c) d → Part (T' c') d' → m d ≡ m' d' → d ≡ d') → T c ≡ T' c'
  rows c c' s s' e same = alike_equal (alike_parts same (look_alike m m' (atom 0) (atom 0) (T c) (T' c') s s' (sym (reads' c') ∙ (sym e ∙ reads c))))

apart_not : (a b : ℕ) → (a < b → ⊥) → (b < a → ⊥) → a ≡ b
apart_not a b f g = omega arith

module _ (T : Table) (m : ℕ → Message) (n : ℕ) (X : Message → Type 0) (l : Lists T m n X) where
  at : ℕ → ℕ
  at c = key (height (m c)) (T c)

  once : (c c' : ℕ) → c < n → c' < n → at c ≡ at c' → c ≡ c'
  unfolding at
  once c c' h h' e = apart_not c c' (λ lt. let o = l.order c c' lt h' in omega arith) (λ lt. let o = l.order c' c lt h in omega arith)

  rising : (c c' : ℕ) → c ≤ c' → c' < n → at c ≤ at c'
  unfolding at
  rising c c' le h = elim (dec_lt c c') [ yes lt ↦ (let o = l.order c c' lt h in omega arith) | no ge ↦ (let e : c ≡ c' = omega arith in subst (λ d. at c ≤ at d) e (omega arith)) ]

  -- Each message stands once.
  inj : (c c' : ℕ) → c < n → c' < n → m c ≡ m c' → c ≡ c'
  unfolding at
  inj = strong (λ c. (c' : ℕ) → c < n → c' < n → m c ≡ m c' → c ≡ c') (λ c ih c' h h' e.
      let r = rows T T m m l.reads l.reads c c' (l.solid c h) (l.solid c' h') e (λ d d' q q' i.
      let a = l.lower c d q in let b = l.lower c' d' q' in ih d a d' (omega arith) (omega arith) i) in
      once c c' h h' (cc))

-- The cell i of one list stands in the other, not before i, if the lists agree before i.
find : (T T' : Table) (m m' : ℕ → Message) (n n' : ℕ) (X : Message → Type 0) → Lists T m n X → Lists T' m' n' X → (i : ℕ) →
    ((d : ℕ) → d < i → d < n → (d < n') × (m d ≡ m' d)) → i < n → (j : ℕ) × (j < n') × (i ≤ j) × (T i ≡ T' j) × (m i ≡ m' j)
find T T' m m' n n' X l l' i ih h =
    let (j, lt, e) = l'.all (m i) (l.only i h) in
    let r = rows T T' m m' l.reads l'.reads i j (l.solid i h) (l'.solid j lt) (sym e) (λ d d' q q' f.
    let a = l.lower i d q in let b = l'.lower j d' q' in let (c, g) = ih d a (omega arith) in
    inj T' m' n' X l' d d' c (omega arith) (sym g ∙ f)) in
    let late : j < i → ⊥ = λ b. (let (c, g) = ih j b (omega arith) in let s = inj T m n X l j i (omega arith) h (g ∙ e) in omega arith) in
    (j, lt, omega arith, r, sym e)

-- Two tables that list the same messages in order are the same.
module _ (T T' : Table) (m m' : ℕ → Message) (n n' : ℕ) (X : Message → Type 0) (l : Lists T m n X) (l' : Lists T' m' n' X) where
  abbrev Agree : ℕ → Type 0
  Agree i = (i < n → (i < n') × (m i ≡ m' i) × (T i ≡ T' i)) × (i < n' → (i < n) × (m' i ≡ m i) × (T' i ≡ T i))

  agree : (i : ℕ) → Agree i
  unfolding at
  agree = strong Agree (λ i ih.
      let f : i < n → (j : ℕ) × (j < n') × (i ≤ j) × (T i ≡ T' j) × (m i ≡ m' j) =
      find T T' m m' n n' X l l' i (λ d lt h. let (a, b, c) = (ih d lt).0 h in (a, b)) in
      let g : i < n' → (j : ℕ) × (j < n) × (i ≤ j) × (T' i ≡ T j) × (m' i ≡ m j) =
      find T' T m' m n' n X l' l i (λ d lt h. let (a, b, c) = (ih d lt).1 h in (a, b)) in
      let same : (h : i < n) (h' : i < n') → (m i ≡ m' i) × (T i ≡ T' i) = (λ h h'.
      let (j, jn, ij, jT, jm) = f h in
      let (k, kn, ik, kT, km) = g h' in
      let up : at T' m' n' X l' i ≤ at T' m' n' X l' j = rising T' m' n' X l' i j ij jn in
      let up' : at T m n X l i ≤ at T m n X l k = rising T m n X l i k ik kn in
      let ej : at T m n X l i ≡ at T' m' n' X l' j = cc in
      let ek : at T' m' n' X l' i ≡ at T m n X l k = cc in
      let e : i ≡ j = once T' m' n' X l' i j h' jn (omega arith) in
      (cc, cc)) in (
        λ h. (let (j, jn, ij, jT, jm) = f h in let h' : i < n' = omega arith in let (a, b) = same h h' in (h', a, b)),
        λ h'. (let (j, jn, ij, jT, jm) = g h' in let h : i < n = omega arith in let (a, b) = same h h' in (h, sym a, sym b)),
      ))

  pub lists_one : (n ≡ n') × ((i : ℕ) → i < n → (T i ≡ T' i) × (m i ≡ m' i))
  lists_one = (
    apart_not n n' (λ lt. let (a, b, c) = (agree n).1 lt in omega arith) (λ lt. let (a, b, c) = (agree n').0 lt in omega arith),
    λ i h. let (a, b, c) = (agree i).0 h in (c, b),
  )

pub rising_one : {l l' : List ℕ} → Rising l → Rising l' → ((c : ℕ) → Memᴰ c l → Memᴰ c l') → ((c : ℕ) → Memᴰ c l' → Memᴰ c l) → l ≡ l'
rising_one none none f g = refl
rising_one none (more {c = c} b r) f g = absurd (Memᴰ.not-nil (g c (Memᴰ.head refl)))
rising_one (more {c = c} b r) none f g = absurd (Memᴰ.not-nil (f c (Memᴰ.head refl)))
rising_one (more {c = c} {l = t} b r) (more {c = c'} {l = t'} b' r') f g =
    let le : c ≤ c' = first c c' t b (g c' (Memᴰ.head refl)) in
    let ge : c' ≤ c = first c' c t' b' (f c (Memᴰ.head refl)) in
    let e : c ≡ c' = omega arith in
    let e' : t ≡ t' = rising_one r r' (λ d h. tail c c' t' d e (b d h) (f d (Memᴰ.tail h))) (λ d h. tail c' c t d (sym e) (b' d h) (g d (Memᴰ.tail h))) in
    cc
  where
    first : (x y : ℕ) (s : List ℕ) → ((d : ℕ) → Memᴰ d s → x < d) → Memᴰ y (x ∷ s) → x ≤ y
    first x y s b h = elim (Memᴰ.cases_cons h) [ inl i ↦ omega arith | inr h' ↦ (let lt = b y h' in omega arith) ]

    tail : (x y : ℕ) (s : List ℕ) (d : ℕ) → x ≡ y → x < d → Memᴰ d (y ∷ s) → Memᴰ d s
    tail x y s d e lt h = elim (Memᴰ.cases_cons h) [ inl i ↦ absurd (omega arith) | inr h' ↦ h' ]

pub lists_same : {T : Table} {m : ℕ → Message} {n : ℕ} {X Y : Message → Type 0} → ((x : Message) → X x ↔ Y x) → Lists T m n X → Lists T m n Y
lists_same e l = record { reads = l.reads; lower = l.lower; solid = l.solid; order = l.order; all = λ x h. l.all x ((e x).1 h); only = λ c h. (e _).0 (l.only c h) }

-- From two lists of known messages from which the same can be built, one and the same file.
pub reduces_one : (K L : Message → Type 0) (T T' : Table) (m m' : ℕ → Message) (n n' : ℕ) (k k' : List ℕ) → ((x : Message) → Built K x ↔ Built L x) →
    Reduces K T m n k → Reduces L T' m' n' k' → (n ≡ n') × ((i : ℕ) → i < n → T i ≡ T' i) × (k ≡ k')
reduces_one K L T T' m m' n n' k k' e r r' =
    let back : (x : Message) → Built L x ↔ Built K x = λ x. ((e x).1, (e x).0) in
    let cells' = lists_same {X = λ x. (y : Message) × Rest L y × Inside x y} {Y = λ x. (y : Message) × Rest K y × Inside x y}
    (λ x. (λ (y, h, i). (y, rest_same back y h, i), λ (y, h, i). (y, rest_same e y h, i))) r'.cells in
    let (en, rows') = lists_one T T' m m' n n' (λ x. (y : Message) × Rest K y × Inside x y) r.cells cells' in (
      en,
      λ i h. (rows' i h).0,
      rising_one r.rises r'.rises
          (λ c h. let (lt, b) = (r.names c).0 h in (r'.names c).1 (omega arith, subst (Rest L) (rows' c lt).1 (rest_same e _ b)))
          (λ c h. let (lt, b) = (r'.names c).0 h in let lt' : c < n = omega arith in (r.names c).1 (lt', subst (Rest K) (sym (rows' c lt').1) (rest_same back _ b))),
    )
