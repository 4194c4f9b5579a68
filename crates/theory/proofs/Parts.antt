-- The steps on cells are those of the messages that the cells show.
use mathlib.Core.Path.{◌≡◌, refl, sym, ◌∙◌, ap, subst}
use mathlib.Core.Logic.{◌⊎◌, inl, inr}
use Prim.Native.Nat.{ℕ}
use Rattle.model.specs.Message.{One, App, Two, Pair, Seal, Message, two, Made, Opens, Held}
use Rattle.model.specs.Reduce.{Inside, whole, deeper}
use Rattle.model.specs.Case.{Cell, AT, VA, ONE, TWO, Table, look, Reads, Part, in_arg, in_left, in_right}
use Rattle.theory.specs.Cells.{Composes, Makes, Opening}
use Rattle.model.proofs.Read.{look_is}

pub composes? : (g : One) → Composes g ⊎ (Composes g → ⊥)
composes? (App f) = inl Composes.apps

pub made_look : (v : Message) (m : ℕ → Message) (k : Cell) {a b : Message} → (k ≡ VA → ⊥) → Made (look v m k) a b → (i : ℕ) × (j : ℕ) × Makes k i j × (m i ≡ a) × (m j ≡ b)
made_look v m (AT n) s h = elim h [ ]
made_look v m VA s h = absurd (s refl)
made_look v m (ONE g a) s Made.apps = (a, a, Makes.ones Composes.apps, refl, refl)
made_look v m (TWO h l r) s Made.pairs = (l, r, Makes.twos, refl, refl)
made_look v m (TWO h l r) s Made.seals = (l, r, Makes.twos, refl, refl)

made_two : {a b : Message} (h : Two) → Made (two h a b) a b
made_two Pair = Made.pairs
made_two Seal = Made.seals

pub look_made : (v : Message) (m : ℕ → Message) {k : Cell} {i j : ℕ} → Makes k i j → Made (look v m k) (m i) (m j)
look_made v m (Makes.ones Composes.apps) = Made.apps
look_made v m (Makes.twos {h = h}) = made_two h

pub makes_parts : {k : Cell} {i j : ℕ} → Makes k i j → Part k i × Part k j
makes_parts (Makes.ones t) = (in_arg, in_arg)
makes_parts Makes.twos = (in_left, in_right)

pub makes? : (k : Cell) → ((i : ℕ) × (j : ℕ) × Makes k i j) ⊎ ((i j : ℕ) → Makes k i j → ⊥)
makes? (AT n) = inr (λ i j h. elim h [ ])
makes? VA = inr (λ i j h. elim h [ ])
makes? (ONE g a) = elim (composes? g) [ inl s ↦ inl (a, a, Makes.ones s) | inr n ↦ inr (λ i j h. n (makes_composes h)) ]
  where
    makes_composes : {g : One} {a i j : ℕ} → Makes (ONE g a) i j → Composes g
    makes_composes (Makes.ones s) = s
makes? (TWO h l r) = inl (l, r, Makes.twos)

pub makes_one : {k : Cell} {i j i' j' : ℕ} → Makes k i j → Makes k i' j' → (i ≡ i') × (j ≡ j')
makes_one (Makes.ones s) (Makes.ones s') = (refl, refl)
makes_one Makes.twos Makes.twos = (refl, refl)

pub makes_only : {k : Cell} {i j d : ℕ} → Makes k i j → Part k d → (d ≡ i) ⊎ (d ≡ j)
makes_only (Makes.ones t) in_arg = inl refl
makes_only Makes.twos in_left = inl refl
makes_only Makes.twos in_right = inr refl

pub opening_part : {S : Table} {c k d : ℕ} → Opening S c k d → Part (S c) d
opening_part (Opening.lefts {l = l} e) = subst (λ k. Part k l) (sym e) in_left
opening_part (Opening.rights {r = r} e) = subst (λ k. Part k r) (sym e) in_right
opening_part (Opening.bodies {b = b} e) = subst (λ k. Part k b) (sym e) in_left

-- The table's openings are those of the messages that it shows.
pub record Keys (S : Table) (m : ℕ → Message) : Type 0 where
  pub able : (c : ℕ) {x k y : Message} → (S c ≡ VA → ⊥) → m c ≡ x → Opens x k y → (i : ℕ) × (d : ℕ) × Opening S c i d × (m i ≡ k) × (m d ≡ y)
  pub sound : (c k d : ℕ) → Opening S c k d → Opens (m c) (m k) (m d)

pub keys : (S : Table) (ρ m : ℕ → Message) → Reads S ρ m → Keys S m
keys S ρ m reads = record { able = able; sound = λ c k d. sound }
  where
    able : (c : ℕ) {x k y : Message} → (S c ≡ VA → ⊥) → m c ≡ x → Opens x k y → (i : ℕ) × (d : ℕ) × Opening S c i d × (m i ≡ k) × (m d ≡ y)
    able c s e Opens.lefts = let (l, r, k, el, er) = look_is (ρ c) m (S c) s (sym (reads c) ∙ e) in (c, l, Opening.lefts k, e, el)
    able c s e Opens.rights = let (l, r, k, el, er) = look_is (ρ c) m (S c) s (sym (reads c) ∙ e) in (c, r, Opening.rights k, e, er)
    able c s e Opens.bodies = let (l, r, k, el, er) = look_is (ρ c) m (S c) s (sym (reads c) ∙ e) in (r, l, Opening.bodies k, er, el)

    sound : {c k d : ℕ} → Opening S c k d → Opens (m c) (m k) (m d)
    sound {c} (Opening.lefts {l = l} e) = subst (λ x. Opens x x (m l)) (sym (reads c ∙ ap (look (ρ c) m) e)) Opens.lefts
    sound {c} (Opening.rights {r = r} e) = subst (λ x. Opens x x (m r)) (sym (reads c ∙ ap (look (ρ c) m) e)) Opens.rights
    sound {c} (Opening.bodies {b = b} {k = k} e) = subst (λ x. Opens x (m k) (m b)) (sym (reads c ∙ ap (look (ρ c) m) e)) Opens.bodies

-- What stands in a message that a cell shows: a part's message, or what stands in one.
pub held_look : (v : Message) (m : ℕ → Message) (k : Cell) {y : Message} → (k ≡ VA → ⊥) → Held y (look v m k) → (d : ℕ) × Part k d × (m d ≡ y)
held_look v m (AT n) s h = elim h [ ]
held_look v m VA s h = absurd (s refl)
held_look v m (ONE g a) s Held.arg = (a, in_arg, refl)
held_look v m (TWO t l r) s Held.left = (l, in_left, refl)
held_look v m (TWO t l r) s Held.right = (r, in_right, refl)

pub inside_part : {x y z : Message} → Inside x y → Held z x → Inside z y
inside_part whole h = deeper h whole
inside_part (deeper k i) h = deeper k (inside_part i h)
