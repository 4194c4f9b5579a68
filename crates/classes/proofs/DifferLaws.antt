-- What a comparison of two cells says of their messages and of their classes.
use mathlib.Core.Path.{◌≡◌, refl}
use Prim.Native.Nat.{ℕ}
use Rattle.model.specs.Message.{One, Two}
use Rattle.model.specs.Case.{Cell, AT, ONE, TWO}
use Rattle.theory.specs.Classes.{Alike, atoms, ones, twos}
use Rattle.theory.proofs.Classes.{alike_parts}
use Rattle.cells.specs.Cells.{Meets, unlike, same}
use Rattle.cells.specs.declared.Meeting.{Meeting}
use Rattle.cells.specs.declared.Meeting.TheVariants as meeting
use Rattle.classes.specs.declared.alike.Diff.{Diff}
use Rattle.classes.specs.declared.alike.Diff.TheVariants.{Same, Clash, Parts}
use Rattle.classes.specs.Differ.{Facing, args, lefts, rights, Told, PartTold}

-- What makes the cells alike gives the same at facing parts.
pub facing_same : {A : Type 0} {f : ℕ → A} {k k' : Cell} {x y : ℕ} → Facing k k' x y → Alike f k k' → f x ≡ f y
facing_same {f = f} h i = go h i refl refl
  where
    go : {k k' l l' : Cell} {x y : ℕ} → Facing k k' x y → Alike f l l' → k ≡ l → k' ≡ l' → f x ≡ f y
    go args atoms p q = cc
    go args (ones e) p q = cc
    go args (twos e i) p q = cc
    go lefts atoms p q = cc
    go lefts (ones e) p q = cc
    go lefts (twos e i) p q = cc
    go rights atoms p q = cc
    go rights (ones e) p q = cc
    go rights (twos e i) p q = cc

-- Cells that are alike by anything are of one kind, name and function.
pub alike_any : {A : Type 0} {f : ℕ → A} {k k' : Cell} → Alike f k k' → Alike {A = Unit} (λ d. tt) k k'
alike_any h = alike_parts (λ d d' q q' e. refl) h

-- If the answer is not Same, the cells are not alike by the classes.
pub told_apart : (cls : ℕ → ℕ) (k k' : Cell) (r : Diff) → Told cls k k' r → (r ≡ Same → ⊥) → Alike cls k k' → ⊥
told_apart cls k k' Same t ne h = ne refl
told_apart cls k k' Clash t ne h = t (alike_any h)
told_apart cls k k' (Parts x y) t ne h = t.1 (facing_same t.0 h)

-- ---- two cells held against each other

-- Cells that are others meet as these do.
pub meets_as : {k k' l l' : Cell} {r r' : Meeting} → k ≡ k' → l ≡ l' → r ≡ r' → Meets k l r → Meets k' l' r'
meets_as e i z w = rw (← e, ← i, ← z) w

module _ {k l : Cell} where
  pub meets_unlike : Meets k l meeting.Unlike → Alike {A = Unit} (λ d. tt) k l → ⊥
  meets_unlike (unlike h) = h

  pub meets_same : Meets k l meeting.Same → (n : ℕ) × (k ≡ AT n) × (l ≡ AT n)
  meets_same (same e i) = (_, e, i)

  -- The parts in pairs are facing.
  pub meets_arg : {a x : ℕ} → Meets k l (meeting.One a x) → Facing k l a x
  meets_arg (Meets.ones e i) = rw (e, i) args

  pub meets_left : {a x b y : ℕ} → Meets k l (meeting.Two a x b y) → Facing k l a x
  meets_left (Meets.twos e i) = rw (e, i) lefts

  pub meets_right : {a x b y : ℕ} → Meets k l (meeting.Two a x b y) → Facing k l b y
  meets_right (Meets.twos e i) = rw (e, i) rights

module _ (cls : ℕ → ℕ) where
  -- One part each.
  pub told_one : (g : One) (b y : ℕ) (r : Diff) → PartTold cls b y r → Told cls (ONE g b) (ONE g y) r
  told_one g b y Same t = ones t
  told_one g b y Clash t = absurd t
  told_one g b y (Parts u v) (eu, ev, ne) = (rw (eu, ev) args, λ e. ne (cc))

  -- Two parts each: the left ones of two classes, or of one class and the right ones compared.
  pub told_left : (h : Two) (a b x y : ℕ) (r : Diff) → (r ≡ Same → ⊥) → PartTold cls a x r → Told cls (TWO h a b) (TWO h x y) r
  told_left h a b x y Same diff t = absurd (diff refl)
  told_left h a b x y Clash diff t = absurd t
  told_left h a b x y (Parts u v) diff (eu, ev, ne) = (rw (eu, ev) lefts, λ e. ne (cc))

  pub told_right : (h : Two) (a b x y : ℕ) (r : Diff) → PartTold cls a x Same → PartTold cls b y r → Told cls (TWO h a b) (TWO h x y) r
  told_right h a b x y Same s t = twos s t
  told_right h a b x y Clash s t = absurd t
  told_right h a b x y (Parts u v) s (eu, ev, ne) = (rw (eu, ev) rights, λ e. ne (cc))

  -- Two cells, by how they meet.
  module _ {k l : Cell} where
    pub told_same : Meets k l meeting.Same → Told cls k l Same
    told_same (same e i) = rw (e, i) atoms

    pub told_args : {a x : ℕ} (r : Diff) → Meets k l (meeting.One a x) → PartTold cls a x r → Told cls k l r
    told_args {a} {x} r (Meets.ones e i) t = rw (e, i) (told_one _ a x r t)

    pub told_both : {a x b y : ℕ} (r : Diff) → Meets k l (meeting.Two a x b y) → ((h : Two) → Told cls (TWO h a b) (TWO h x y) r) → Told cls k l r
    told_both r (Meets.twos e i) t = rw (e, i) (t _)
