-- Laws of the class array: its equalities, merges, and when its table has a reading.
use mathlib.Core.Path.{◌≡◌, refl, sym, ◌∙◌, subst}
use mathlib.Core.Logic.{◌↔◌, ◌⊎◌, inl, inr}
use Prim.Native.Nat.{ℕ, zero, suc, ◌≤◌, ◌<◌}
use native.Mathlib.Omega.{arith}
use Rattle.model.specs.Message.{Message}
use Rattle.model.specs.Case.{Cell, AT, VA, ONE, TWO, Table, look, Reads, shown, Part, in_arg, in_left, in_right, Lower}
use Rattle.theory.specs.Classes.{twos, atoms, Likes, ones, Alike, Closed, Sat, Joins, Ranked}
use Rattle.model.proofs.Steps.{size, held_size}
use Rattle.model.proofs.Read.{strong, clash, var?, look_same, look_is, part_held}

pub part_solid : {k : Cell} {d : ℕ} → Part k d → k ≡ VA → ⊥
part_solid in_arg e = clash (cc)
part_solid in_left e = clash (cc)
part_solid in_right e = clash (cc)

pub alike_solid : {A : Type 0} {f g : ℕ → A} {k k' : Cell} → Likes f g k k' → k' ≡ VA → ⊥
alike_solid atoms e = clash (cc)
alike_solid (ones i) e = clash (cc)
alike_solid (twos i j) e = clash (cc)

pub part_alike : {A : Type 0} {f g : ℕ → A} {k k' : Cell} {d : ℕ} → Likes f g k k' → Part k d → (d' : ℕ) × Part k' d' × (f d ≡ g d')
part_alike atoms h = elim h [ ]
part_alike (ones e) in_arg = (_, in_arg, e)
part_alike (twos e i) in_left = (_, in_left, e)
part_alike (twos e i) in_right = (_, in_right, i)

pub alike_sym : {A : Type 0} {f g : ℕ → A} {k k' : Cell} → Likes f g k k' → Likes g f k' k
alike_sym atoms = atoms
alike_sym (ones e) = ones (sym e)
alike_sym (twos e i) = twos (sym e) (sym i)

-- Alike cells show the same message, and cells that are no variables and show the same message are alike.
pub alike_look : {m m' : ℕ → Message} (v w : Message) {k k' : Cell} → Likes m m' k k' → look v m k ≡ look w m' k'
alike_look v w atoms = refl
alike_look v w (ones e) = cc
alike_look v w (twos e i) = cc

pub look_alike : (m m' : ℕ → Message) (v w : Message) (k k' : Cell) → (k ≡ VA → ⊥) → (k' ≡ VA → ⊥) → look w m' k' ≡ look v m k → Likes m m' k k'
look_alike m m' v w (AT n) k' s s' e = subst (Likes m m' (AT n)) (sym (look_is w m' k' s' e)) atoms
look_alike m m' v w VA k' s s' e = absurd (s refl)
look_alike m m' v w (ONE t a) k' s s' e =
    let (a', i, ea) = look_is w m' k' s' e in
    subst (Likes m m' (ONE t a)) (sym i) (ones (sym ea))
look_alike m m' v w (TWO t l r) k' s s' e =
    let (l', r', i, el, er) = look_is w m' k' s' e in
    subst (Likes m m' (TWO t l r)) (sym i) (twos (sym el) (sym er))

pub alike_parts : {A B : Type 0} {f f' : ℕ → A} {g g' : ℕ → B} {k k' : Cell} →
    ((d d' : ℕ) → Part k d → Part k' d' → f d ≡ f' d' → g d ≡ g' d') → Likes f f' k k' → Likes g g' k k'
alike_parts h atoms = atoms
alike_parts h (ones e) = ones (h _ _ in_arg in_arg e)
alike_parts h (twos e i) = twos (h _ _ in_left in_left e) (h _ _ in_right in_right i)

-- Two cells alike by their parts' numbers are equal.
pub alike_equal : {k k' : Cell} → Alike {A = ℕ} (λ d. d) k k' → k ≡ k'
alike_equal atoms = refl
alike_equal (ones e) = cc
alike_equal (twos e i) = cc

-- Clash, and parts: of a class with two cells that are no variables, m makes them alike.
pub forced : (T : Table) (rep : ℕ → ℕ) (m : ℕ → Message) → Reads T m m → Sat rep m →
    (c : ℕ) → (T c ≡ VA → ⊥) → (T (rep c) ≡ VA → ⊥) → Alike m (T c) (T (rep c))
forced T rep m mr sat c s s' = look_alike m m (m c) (m (rep c)) (T c) (T (rep c)) s s' (cc (mr c, mr (rep c), sat c))

-- The list's equalities, one for each variable, are all equalities of the classes.
pub list_classes : (T : Table) (rep : ℕ → ℕ) (m : ℕ → Message) → Lower T → Closed T rep → ((c : ℕ) → (T c ≡ VA → ⊥) → rep c ≤ c) → Reads T m m →
    ((v : ℕ) → T v ≡ VA → m v ≡ m (rep v)) → Sat rep m
list_classes T rep m low closed lowest mr list = strong (λ c. m c ≡ m (rep c)) step
  where
    step : (c : ℕ) → ((d : ℕ) → d < c → m d ≡ m (rep d)) → m c ≡ m (rep c)
    step c ih = elim (var? (T c)) [
      | inl v ↦ list c v
      | inr s ↦
          let le = lowest c s in
          let parts : Alike m (T c) (T (rep c)) = alike_parts
          (λ d d' q q' e. let l = low c d q in let l' = low (rep c) d' q' in
          cc (ih d (omega arith), ih d' (omega arith))) (closed c s) in
          mr c ∙ (alike_look (m c) (m (rep c)) parts ∙ sym (mr (rep c)))
    ]

pub sat_joins : (rep : ℕ → ℕ) (a b : ℕ) (rep' : ℕ → ℕ) (m : ℕ → Message) → Joins rep a b rep' → Sat rep' m ↔ (Sat rep m × (m a ≡ m b))
sat_joins rep a b rep' m j = (λ s. (λ c. cc (s c, s (rep c), j.coarser c), cc (s a, s b, j.together)), λ (s, e). back s e)
  where
    ab : m a ≡ m b → (x : ℕ) → (x ≡ a) ⊎ (x ≡ b) → m x ≡ m a
    ab e x (inl i) = cc
    ab e x (inr i) = cc

    back : Sat rep m → m a ≡ m b → Sat rep' m
    back s e c = elim (j.only c) [ inl i ↦ cc (s c) | inr h ↦ cc (s c, ab e (rep c) h.0, ab e (rep' c) h.1) ]

-- A table that has a reading is ranked,
pub reads_ranked : (S : Table) (ρ m : ℕ → Message) → Reads S ρ m → Ranked S (λ c. size (m c))
reads_ranked S ρ m mr c d q = subst (λ x. size (m d) < size x) (sym (mr c)) (held_size (part_held (ρ c) m q))

-- and a ranked table has one.
pub rank_strong : (rank : ℕ → ℕ) (P : ℕ → Type 0) → ((c : ℕ) → ((d : ℕ) → rank d < rank c → P d) → P c) → (c : ℕ) → P c
rank_strong rank P step c =
    strong (λ n. (c : ℕ) → rank c ≡ n → P c) (λ n ih c e. step c (λ d lt. ih (rank d) (omega arith) d refl)) (rank c) c refl

-- Every class gets done: what holds of a cell if it holds of all its parts holds of every cell of a ranked table.
pub all_done : (S : Table) (rank : ℕ → ℕ) → Ranked S rank → (Done : ℕ → Type 0) → ((c : ℕ) → ((d : ℕ) → Part (S c) d → Done d) → Done c) → (c : ℕ) → Done c
all_done S rank r Done close = rank_strong rank Done (λ c ih. close c (λ d q. ih d (r c d q)))

-- So finite values exist only if all classes get done.
pub all_done_of_reading : (S : Table) (ρ m : ℕ → Message) → Reads S ρ m → (Done : ℕ → Type 0) → ((c : ℕ) → ((d : ℕ) → Part (S c) d → Done d) → Done c) → (c : ℕ) → Done c
all_done_of_reading S ρ m mr = all_done S (λ c. size (m c)) (reads_ranked S ρ m mr)

ranked_enough : (S : Table) (ρ : ℕ → Message) (rank : ℕ → ℕ) → Ranked S rank → (n n' c : ℕ) → rank c < n → rank c < n' → shown S ρ n c ≡ shown S ρ n' c
unfolding shown
ranked_enough S ρ rank r zero n' c h h' = absurd (omega arith)
ranked_enough S ρ rank r (suc n) zero c h h' = absurd (omega arith)
ranked_enough S ρ rank r (suc n) (suc n') c h h' =
    look_same (ρ c) (shown S ρ n) (shown S ρ n') (S c)
    (λ d i. let l = r c d i in ranked_enough S ρ rank r n n' d (omega arith) (omega arith))

pub ranked_reads : (S : Table) (ρ : ℕ → Message) (rank : ℕ → ℕ) → Ranked S rank → Reads S ρ (λ c. shown S ρ (suc (rank c)) c)
unfolding shown
ranked_reads S ρ rank r c =
    look_same (ρ c) (shown S ρ (rank c)) (λ c. shown S ρ (suc (rank c)) c) (S c)
    (λ d i. let l = r c d i in ranked_enough S ρ rank r (rank c) (suc (rank d)) d (omega arith) (omega arith))
