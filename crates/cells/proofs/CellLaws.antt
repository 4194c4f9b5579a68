-- Cells taken apart and held against each other, by their kinds.
use mathlib.Core.Path.{◌≡◌, refl, sym, ap, subst}
use mathlib.Core.Logic.{◌⊎◌, inl, inr}
use Prim.Native.Nat.{ℕ, zero, suc, ◌+◌, ◌*◌}
use Rattle.model.specs.Message.{Two}
use Rattle.model.specs.Case as case
use Rattle.model.specs.Case.{AT, VA, TWO, PR, SE, AP, MK}
use Rattle.model.specs.Stored.{cell_at, word_of}
use Rattle.model.proofs.Read.{clash}
use Rattle.theory.specs.Cells.{apps, Makes}
use Rattle.theory.specs.Classes.{Alike, Likes}
use Rattle.theory.specs.Level as Level
use Rattle.theory.specs.Level.{Kin}
use Rattle.cells.specs.Cells.{as_cell, MadeOf, Opens, Meets, none, one, two, shut, open_pair, locked, unlike, same}
use Rattle.cells.specs.declared.Cell.{Cell}
use Rattle.cells.specs.declared.Cell.TheVariants as cell
use Rattle.cells.specs.declared.Opening.{Opening}
use Rattle.cells.specs.declared.Meeting.{Meeting}
use Rattle.cells.specs.declared.Parts.TheVariants as parts
use Rattle.cells.specs.declared.Opening.TheVariants as opening
use Rattle.cells.specs.declared.Meeting.TheVariants as meeting

-- ---- cells taken apart

-- A kind that there is not shows his own name.
pub no_cell : (k a b : ℕ) → (k ≡ 0 → ⊥) → (k ≡ 1 → ⊥) → (k ≡ 2 → ⊥) → (k ≡ 3 → ⊥) → (k ≡ 4 → ⊥) → AT 0 ≡ cell_at k a b
no_cell zero a b n0 n1 n2 n3 n4 = absurd (n0 refl)
no_cell (suc zero) a b n0 n1 n2 n3 n4 = absurd (n1 refl)
no_cell (suc (suc zero)) a b n0 n1 n2 n3 n4 = absurd (n2 refl)
no_cell (suc (suc (suc zero))) a b n0 n1 n2 n3 n4 = absurd (n3 refl)
no_cell (suc (suc (suc (suc zero)))) a b n0 n1 n2 n3 n4 = absurd (n4 refl)
no_cell (suc (suc (suc (suc (suc k))))) a b n0 n1 n2 n3 n4 = refl

pub word_variable : {k : Cell} → k ≡ cell.Variable → 1 * 65536 + 0 * 256 + 0 ≡ word_of (as_cell k)
word_variable e = rw e refl

module _ {k : Cell} where
  pub made_name : {n : ℕ} → k ≡ cell.Atom n → MadeOf (as_cell k) parts.None
  made_name e = rw e (none λ a b m. elim m [ ])

  pub made_variable : k ≡ cell.Variable → MadeOf (as_cell k) parts.None
  made_variable e = rw e (none λ a b m. elim m [ ])

  pub made_pair : {l r : ℕ} → k ≡ cell.Pair l r → MadeOf (as_cell k) (parts.Two l r)
  made_pair e = rw e (two refl Makes.twos)

  pub made_seal : {b c : ℕ} → k ≡ cell.Seal b c → MadeOf (as_cell k) (parts.Two b c)
  made_seal e = rw e (two refl Makes.twos)

  pub made_apply : {f a : ℕ} → k ≡ cell.Apply f a → MadeOf (as_cell k) (parts.One a)
  made_apply e = rw e (one refl (Makes.ones apps))

  pub opens_name : {n : ℕ} → k ≡ cell.Atom n → Opens (as_cell k) opening.Shut
  opens_name e = rw e (shut (λ l r x. clash (cc)) (λ b c x. clash (cc)))

  pub opens_variable : k ≡ cell.Variable → Opens (as_cell k) opening.Shut
  opens_variable e = rw e (shut (λ l r x. clash (cc)) (λ b c x. clash (cc)))

  pub opens_pair : {l r : ℕ} → k ≡ cell.Pair l r → Opens (as_cell k) (opening.Open l r)
  opens_pair e = rw e (open_pair refl)

  pub opens_seal : {b c : ℕ} → k ≡ cell.Seal b c → Opens (as_cell k) (opening.Locked b c)
  opens_seal e = rw e (locked refl)

  pub opens_apply : {f a : ℕ} → k ≡ cell.Apply f a → Opens (as_cell k) opening.Shut
  opens_apply e = rw e (shut (λ l r x. clash (cc)) (λ b c x. clash (cc)))

pub ruleset composing = (made_name, made_variable, made_pair, made_seal, made_apply)

pub ruleset opening_up = (opens_name, opens_variable, opens_pair, opens_seal, opens_apply)

-- ---- cells held against each other

-- Names that are alike are one, and so are functions.
alike_names : {n m : ℕ} → Alike {A = Unit} (λ d. tt) (AT n) (AT m) → n ≡ m
alike_names Likes.atoms = refl

alike_functions : {f a g x : ℕ} → Alike {A = Unit} (λ d. tt) (AP f a) (AP g x) → f ≡ g
alike_functions (Likes.ones e) = refl

module _ (c d : Cell) where
  pub same_name : {n m : ℕ} → c ≡ cell.Atom n → d ≡ cell.Atom m → n ≡ m → Meets (as_cell c) (as_cell d) meeting.Same
  same_name e i z = rw (e, i) (same refl (ap AT (sym z)))

  pub other_name : {n m : ℕ} → c ≡ cell.Atom n → d ≡ cell.Atom m → (n ≡ m → ⊥) → Meets (as_cell c) (as_cell d) meeting.Unlike
  other_name e i z = rw (e, i) (unlike λ x. z (alike_names x))

  pub two_pair : {a b x y : ℕ} → c ≡ cell.Pair a b → d ≡ cell.Pair x y → Meets (as_cell c) (as_cell d) (meeting.Two a x b y)
  two_pair e i = rw (e, i) (Meets.twos refl refl)

  pub two_seal : {a b x y : ℕ} → c ≡ cell.Seal a b → d ≡ cell.Seal x y → Meets (as_cell c) (as_cell d) (meeting.Two a x b y)
  two_seal e i = rw (e, i) (Meets.twos refl refl)

  pub one_apply : {f a g x : ℕ} → c ≡ cell.Apply f a → d ≡ cell.Apply g x → f ≡ g → Meets (as_cell c) (as_cell d) (meeting.One a x)
  one_apply {f} {a} {g} {x} e i z = rw (e, i) (Meets.ones refl (ap (λ (h : ℕ). AP h x) (sym z)))

  pub other_apply : {f a g x : ℕ} → c ≡ cell.Apply f a → d ≡ cell.Apply g x → (f ≡ g → ⊥) → Meets (as_cell c) (as_cell d) meeting.Unlike
  other_apply e i z = rw (e, i) (unlike λ x. z (alike_functions x))

  pub unlike_variable : c ≡ cell.Variable → Meets (as_cell c) (as_cell d) meeting.Unlike
  unlike_variable e = rw e (unlike λ x. elim x [ ])

pub unlike_name : (c d : Cell) {n : ℕ} → c ≡ cell.Atom n → ((m : ℕ) → d ≡ cell.Atom m → ⊥) → Meets (as_cell c) (as_cell d) meeting.Unlike
unlike_name c (cell.Atom m) e h = absurd (h m refl)
unlike_name c cell.Variable e h = rw e (unlike λ x. elim x [ ])
unlike_name c (cell.Pair x y) e h = rw e (unlike λ x. elim x [ ])
unlike_name c (cell.Seal x y) e h = rw e (unlike λ x. elim x [ ])
unlike_name c (cell.Apply g x) e h = rw e (unlike λ x. elim x [ ])

pub unlike_pair : (c d : Cell) {a b : ℕ} → c ≡ cell.Pair a b → ((x y : ℕ) → d ≡ cell.Pair x y → ⊥) → Meets (as_cell c) (as_cell d) meeting.Unlike
unlike_pair c (cell.Atom m) e h = rw e (unlike λ x. elim x [ ])
unlike_pair c cell.Variable e h = rw e (unlike λ x. elim x [ ])
unlike_pair c (cell.Pair x y) e h = absurd (h x y refl)
unlike_pair c (cell.Seal x y) e h = rw e (unlike λ x. elim x [ ])
unlike_pair c (cell.Apply g x) e h = rw e (unlike λ x. elim x [ ])

pub unlike_seal : (c d : Cell) {a b : ℕ} → c ≡ cell.Seal a b → ((x y : ℕ) → d ≡ cell.Seal x y → ⊥) → Meets (as_cell c) (as_cell d) meeting.Unlike
unlike_seal c (cell.Atom m) e h = rw e (unlike λ x. elim x [ ])
unlike_seal c cell.Variable e h = rw e (unlike λ x. elim x [ ])
unlike_seal c (cell.Pair x y) e h = rw e (unlike λ x. elim x [ ])
unlike_seal c (cell.Seal x y) e h = absurd (h x y refl)
unlike_seal c (cell.Apply g x) e h = rw e (unlike λ x. elim x [ ])

pub unlike_apply : (c d : Cell) {f a : ℕ} → c ≡ cell.Apply f a → ((g x : ℕ) → d ≡ cell.Apply g x → ⊥) → Meets (as_cell c) (as_cell d) meeting.Unlike
unlike_apply c (cell.Atom m) e h = rw e (unlike λ x. elim x [ ])
unlike_apply c cell.Variable e h = rw e (unlike λ x. elim x [ ])
unlike_apply c (cell.Pair x y) e h = rw e (unlike λ x. elim x [ ])
unlike_apply c (cell.Seal x y) e h = rw e (unlike λ x. elim x [ ])
unlike_apply c (cell.Apply g x) e h = absurd (h g x refl)

pub ruleset meetings = (same_name, other_name, two_pair, two_seal, one_apply, other_apply, unlike_variable, unlike_name, unlike_pair, unlike_seal, unlike_apply)

-- ---- kin

-- A cell that does not open by itself is no pair.
pub not_open : {k : case.Cell} (o : Opening) → (o ≡ opening.Shut) ⊎ ((b : ℕ) × (c : ℕ) × (o ≡ opening.Locked b c)) → Opens k o → (l r : ℕ) → k ≡ PR l r → ⊥
not_open opening.Shut h (shut p s) l r e = p l r e
not_open (opening.Open a b) (inl h) x l r e = clash (cc)
not_open (opening.Open a b) (inr (_, _, h)) x l r e = clash (cc)
not_open (opening.Locked b c) h (locked x) l r e = clash (cc)

-- Kin are no pairs and no names, and are alike but for their parts.
kin_no_pair : {k l : case.Cell} {a b : ℕ} → Kin k l → k ≡ PR a b → ⊥
kin_no_pair Kin.ones z = clash (cc)
kin_no_pair (Kin.twos Level.seals) z = clash (cc)

kin_no_name : {k l : case.Cell} {n : ℕ} → Kin k l → k ≡ AT n → ⊥
kin_no_name Kin.ones z = clash (cc)
kin_no_name (Kin.twos s) z = clash (cc)

kin_alike : {k l : case.Cell} → Kin k l → Alike {A = Unit} (λ d. tt) k l
kin_alike Kin.ones = Likes.ones refl
kin_alike (Kin.twos s) = Likes.twos refl refl

module _ {k l : case.Cell} where
  pub kin_open : {o : Opening} {a b : ℕ} → o ≡ opening.Open a b → Opens k o → Kin k l → ⊥
  kin_open {o} {a} {b} e x y = go (subst (Opens k) e x) y
    where
      go : Opens k (opening.Open a b) → Kin k l → ⊥
      go (open_pair z) y = kin_no_pair y z

  pub kin_unlike : {m : Meeting} → m ≡ meeting.Unlike → Meets k l m → Kin k l → ⊥
  kin_unlike e x y = go (subst (Meets k l) e x)
    where
      go : Meets k l meeting.Unlike → ⊥
      go (unlike n) = n (kin_alike y)

  pub kin_same : {m : Meeting} → m ≡ meeting.Same → Meets k l m → Kin k l → ⊥
  kin_same e x y = go (subst (Meets k l) e x) y
    where
      go : Meets k l meeting.Same → Kin k l → ⊥
      go (same z w) y = kin_no_name y z

  pub kin_one : {m : Meeting} {a b : ℕ} → m ≡ meeting.One a b → Meets k l m → Kin k l
  kin_one {m} {a} {b} e x = go (subst (Meets k l) e x)
    where
      go : Meets k l (meeting.One a b) → Kin k l
      go (Meets.ones z w) = rw (z, w) Kin.ones

  pub kin_two : {m : Meeting} {a b x y : ℕ} → ((p q : ℕ) → k ≡ PR p q → ⊥) → m ≡ meeting.Two a b x y → Meets k l m → Kin k l
  kin_two {m} {a} {b} {x} {y} never e i = go (subst (Meets k l) e i)
    where
      by_kind : (h : Two) {p q u v : ℕ} → k ≡ TWO h p q → l ≡ TWO h u v → Kin k l
      by_kind Two.Pair {p} {q} z w = absurd (never p q z)
      by_kind Two.Seal z w = rw (z, w) (Kin.twos Level.seals)

      go : Meets k l (meeting.Two a b x y) → Kin k l
      go (Meets.twos {h} z w) = by_kind h z w
