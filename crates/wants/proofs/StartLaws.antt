-- The loops that make the rows to start from, and that the row of bare cells has them.
use mathlib.Core.Path.{◌≡◌, refl, sym, ◌∙◌, ap, subst}
use mathlib.Core.Logic.{◌⊎◌, inl, inr}
use mathlib.Core.Bool.{Bool, true, false, not}
use mathlib.Core.List.{List}
use Prim.Native.Nat.{ℕ, ◌≤◌, ◌<◌}
use native.Mathlib.Omega.{arith}
use lib.ListN.{get_or, replicate}
use Rattle.std.specs.Prelude.{Option, Some, None}
use Rattle.std.specs.Bool.{then_some}
use Rattle.model.specs.Message.{App, Two}
use Rattle.model.specs.Case.{Cell, AT, VA, ONE, TWO, PR, SE, Event, MK, LN, Table, Run, Part}
use Rattle.model.specs.Stored.{table_in, event_in, aim}
use Rattle.model.proofs.Read.{clash}
use Rattle.model.proofs.Rows.{zeros}
use Rattle.theory.specs.Cells.{TableWords, RunWords, Composes, Makes, Opening, class_at, On}
use Rattle.theory.specs.Decides.{Decides}
use Rattle.theory.specs.Level as Level
use Rattle.theory.specs.Level.{Kin}
use Rattle.theory.specs.Sweep.{Swept}
use Rattle.theory.specs.Cut.{Bares}
use Rattle.theory.proofs.Level.{kin_part}
use Rattle.theory.proofs.Rows.{rows_part}
use Rattle.cells.specs.Cells.{Opens, shut, open_pair, locked}
use Rattle.cells.specs.declared.Opening as opened
use Rattle.cells.specs.declared.Opening.TheVariants as opening
use Rattle.knowledge.specs.Knowledge.{ClassRow, MarkRow}
use Rattle.knowledge.specs.Sweeps.{left_part, right_part, left_class, right_class}
use Rattle.knowledge.proofs.ByKind.{makes_ends}
use Rattle.theory.proofs.MarkRows.{no_mark}
use Rattle.wants.specs.Starts.{Picks, EndsAt, BareAt, BareTo, LacksKey, KeyTold, Keyed, FreeAt, FreeSeen, DueTold, Due, Joint}
use Rattle.wants.proofs.PickLaws.{picks_wider, picks_all, picks_only}

-- ---- the classes of parts

pub ends_at : {n : ℕ} (T : Table) {rep : List ℕ} → ClassRow n rep → (c : ℕ) {k : Cell} {l r : ℕ} → k ≡ T c → l ≡ class_at rep (left_part k c) → r ≡ class_at rep (right_part k c) → EndsAt T rep c l r
ends_at T {rep} row c is e i =
    let x : _ ≡ left_class T rep c = e ∙ ap (λ k. class_at rep (left_part k c)) is in
    let y : _ ≡ right_class T rep c = i ∙ ap (λ k. class_at rep (right_part k c)) is in
    record { left = x; right = y; left_low = omega (arith, x, row.low (left_part (T c) c)); right_low = omega (arith, y, row.low (right_part (T c) c)) }

-- ---- bare cells

-- A cell that is kin to itself is no pair, and is composed of its parts; one that has parts and is no pair is kin to itself.
kin_shut : {k k' : Cell} {l r : ℕ} → Kin k k' → k ≡ PR l r → ⊥
kin_shut Kin.ones e = clash (cc)
kin_shut (Kin.twos Level.seals) e = clash (cc)

kin_makes : {k k' : Cell} → Kin k k' → (i : ℕ) × (j : ℕ) × Makes k i j
kin_makes (Kin.ones {g = App f} {a = a}) = (a, a, Makes.ones Composes.apps)
kin_makes (Kin.twos {l = l} {r = r} s) = (l, r, Makes.twos)

bare_kin : (k : Cell) → ((x : ℕ) × Part k x) → ((l r : ℕ) → k ≡ PR l r → ⊥) → Kin k k
bare_kin (AT n) (x, p) s = elim p [ ]
bare_kin VA (x, p) s = elim p [ ]
bare_kin (ONE g a) (x, p) s = Kin.ones
bare_kin (TWO Two.Pair l r) (x, p) s = absurd (s l r refl)
bare_kin (TWO Two.Seal l r) (x, p) s = Kin.twos Level.seals

module _ {T : Table} {rep seens builts : List ℕ} {c : ℕ} where
  pub bare_unkin : (Kin (T c) (T c) → ⊥) → BareAt T rep seens builts c → ⊥
  bare_unkin n w = n (bare_kin (T c) w.part w.shut)

  module _ {a b : ℕ} (e : EndsAt T rep c a b) (k : Kin (T c) (T c)) where
    pub bare_made : On builts a → On builts b → BareAt T rep seens builts c → ⊥
    bare_made x y w =
        let (i, j, m) = kin_makes k in
        let (l, r) = makes_ends c m in
        w.lacks i j m (subst (λ d. On builts (class_at rep d)) l (subst (On builts) e.left x)) (subst (λ d. On builts (class_at rep d)) r (subst (On builts) e.right y))

    -- Seen and without one of its parts it is bare.
    pub bare_here : On seens c → (On builts a → On builts b → ⊥) → BareAt T rep seens builts c
    bare_here o ne =
        record {
          whole = o;
          shut = λ l r q. kin_shut k q;
          part = kin_part k;
          lacks = λ x y m ox oy. (let (l, r) = makes_ends c m in
              ne (subst (On builts) (sym e.left) (subst (λ d. On builts (class_at rep d)) (sym l) ox)) (subst (On builts) (sym e.right) (subst (λ d. On builts (class_at rep d)) (sym r) oy)));
        }

    pub bare_decides : {u : Bool} → On seens c → (u ≡ true → On builts a → On builts b → ⊥) → (u ≡ false → On builts a × On builts b) → Decides u (BareAt T rep seens builts c)
    bare_decides o to of = record { yes = λ i. bare_here o (to i); no = λ i w. (let (x, y) = of i in bare_made x y w) }

pub bares_picks : {P : ℕ → Option ℕ → Type 0} {T : Table} {rep seens builts r : List ℕ} {n : ℕ} →
    ((c : ℕ) (k : Option ℕ) → c < n → P c k → (b : Bool) × (k ≡ then_some b c) × Decides b (BareAt T rep seens builts c)) → Picks P (replicate 129 0) r n → BareTo T rep seens builts r n
bares_picks told w = record {
  long = w.long;
  bits = λ c. elim (w.only c) [ inl e ↦ omega (arith, zeros 129 c) | inr x ↦ (let (o, y) = x in omega arith) ];
  only = λ c o. elim (picks_only told w c o) [ inl e ↦ absurd (no_mark 129 c e) | inr x ↦ x ];
  bares = picks_all told w;
}

module _ {n : ℕ} {words rep : List ℕ} (w : TableWords n words) (row : ClassRow n rep) where
  pub bare_rows : {ev : Run} {p : ℕ} {seens builts r : List ℕ} → Swept (table_in words) (class_at rep) ev p (On seens) (On builts) → BareTo (table_in words) rep seens builts r n →
      Bares (table_in words) (class_at rep) (On seens) (On builts) (On r)
  bare_rows {seens = seens} {builts = builts} sw all c d e q s n = all.bares c (rows_part w c d q).0 (record { whole = s; shut = λ l k i. pair c l k e i s n; part = (d, q); lacks = n })
    where
      T : Table
      T = table_in words

      -- The parts of a pair that is seen are built.
      pair : (c l k : ℕ) → class_at rep c ≡ c → T c ≡ PR l k → On seens c → ((a b : ℕ) → Makes (T c) a b → On builts (class_at rep a) → On builts (class_at rep b) → ⊥) → ⊥
      pair c l k e i s none =
          let b : On builts (class_at rep c) = subst (On builts) (sym e) (sw.had c e s) in
          none l k (subst (λ z. Makes z l k) (sym i) Makes.twos)
          (sw.had (class_at rep l) (row.idem l) (sw.opens c c l e (Opening.lefts i) s b))
          (sw.had (class_at rep k) (row.idem k) (sw.opens c c k e (Opening.rights i) s b))

-- ---- keys

-- What is shut or open is no seal.
pub unsealed : {k k' : Cell} {o : opened.Opening} → k ≡ k' → Opens k o → (o ≡ opening.Shut) ⊎ ((l : ℕ) × (r : ℕ) × (o ≡ opening.Open l r)) → (b j : ℕ) → k' ≡ SE b j → ⊥
unsealed {k} is x (inl e) b j z = go (subst (Opens k) e x)
  where
    go : Opens k opening.Shut → ⊥
    go (shut p s) = s b j (is ∙ z)
unsealed {k} is x (inr (l, r, e)) b j z = go (subst (Opens k) e x)
  where
    go : Opens k (opening.Open l r) → ⊥
    go (open_pair q) = clash (cc)

pub locked_seal : {k k' : Cell} {o : opened.Opening} {b j : ℕ} → k ≡ k' → Opens k o → o ≡ opening.Locked b j → k' ≡ SE b j
locked_seal {k} {k'} {o} {b} {j} is x e = go (subst (Opens k) e x)
  where
    go : Opens k (opening.Locked b j) → k' ≡ SE b j
    go (locked z) = sym is ∙ z

module _ {T : Table} {rep seens builts : List ℕ} {c : ℕ} where
  pub key_unseen : (On seens c → ⊥) → KeyTold T rep seens builts c None
  key_unseen n = KeyTold.nothing (λ k w. n w.whole)

  pub key_unsealed : ((b j : ℕ) → T c ≡ SE b j → ⊥) → KeyTold T rep seens builts c None
  key_unsealed n = KeyTold.nothing (λ j w. let (b, e) = w.sealed in n b j e)

  module _ {b j t : ℕ} (e : T c ≡ SE b j) (z : t ≡ class_at rep j) where
    pub key_built : On builts t → KeyTold T rep seens builts c None
    key_built u = KeyTold.nothing (λ i w.
        let (d, q) = w.sealed in
        let same : j ≡ i = cc in
        w.lacks (subst (On builts) (z ∙ ap (class_at rep) same) u))

    pub key_new : KeyTold T rep seens builts c (Some t)
    key_new = subst (λ x. KeyTold T rep seens builts c (Some x)) (sym z) (KeyTold.key e)

    pub key_pick : (u : Bool) → Decides u (On builts t) → KeyTold T rep seens builts c (then_some (not u) t)
    key_pick true d = key_built (d.yes refl)
    key_pick false d = key_new

  pub key_low : {n : ℕ} → ClassRow n rep → {p : Option ℕ} {t : ℕ} → KeyTold T rep seens builts c p → p ≡ Some t → (t ≤ 128) × (class_at rep t ≡ t)
  key_low row {t = t} (KeyTold.key {k = k} i) e = let z : class_at rep k ≡ t = cc in (omega (arith, row.low k, z), subst (λ x. class_at rep x ≡ x) z (row.idem k))
  key_low row (KeyTold.nothing n) e = clash (cc)

  key_told : {p : Option ℕ} {k : ℕ} → KeyTold T rep seens builts c p → LacksKey T rep seens builts c k → p ≡ Some (class_at rep k)
  key_told {k = k} (KeyTold.key {k = j} i) x = let (b, q) = x.sealed in let same : j ≡ k = cc in ap (λ y. Some (class_at rep y)) same
  key_told {k = k} (KeyTold.nothing n) x = absurd (n k x)

pub keyed_picks : {P : ℕ → Option ℕ → Type 0} {n : ℕ} {T : Table} {rep seens builts m r : List ℕ} → ClassRow n rep → MarkRow rep m →
    ((c : ℕ) (k : Option ℕ) → c < n → P c k → KeyTold T rep seens builts c k) → Picks P m r n → Keyed T rep seens builts m r n
keyed_picks {T = T} {rep} {seens} {builts} row marks told w = record {
  wider = picks_wider (λ c t h p. (key_low row (told c (Some t) h p) refl).1) marks w;
  keys = λ c k h x. (let (j, p, o) = w.told c h in o (class_at rep k) (key_told (told c j h p) x));
}

-- ---- free cells that are seen

-- What is seen stands for its class.
pub free_picks : {P : ℕ → Option ℕ → Type 0} {T : Table} {rep seens r : List ℕ} {n : ℕ} → MarkRow rep seens →
    ((c : ℕ) (k : Option ℕ) → c < n → P c k → (b : Bool) × (k ≡ then_some b c) × Decides b (FreeAt T seens c)) → Picks P (replicate 129 0) r n → FreeSeen T rep seens r n
free_picks row told w = record {
  long = w.long;
  marked = record {
    bits = λ c. elim (w.only c) [ inl e ↦ omega (arith, zeros 129 c) | inr x ↦ (let (o, y) = x in omega arith) ];
    stand = λ c o. elim (picks_only told w c o) [ inl e ↦ absurd (no_mark 129 c e) | inr x ↦ (let (h, (s, v)) = x in row.stand c s) ];
  };
  free = picks_all told w;
}

-- ---- what is to be made

pub fewer_events : {n : ℕ} {run : List ℕ} {p count : ℕ} → RunWords n run count → p ≤ count → RunWords n run p
fewer_events w l = record { few = omega (arith, w.few); below = λ q h. w.below q (omega arith) }

module _ {rep held : List ℕ} {e : Event} {x : ℕ} where
  pub due_learnt : e ≡ LN x → DueTold rep held e None
  due_learnt i = DueTold.nothing (λ y j. clash (cc))

  module _ (i : e ≡ MK x) {t : ℕ} (z : t ≡ class_at rep x) where
    pub due_new : DueTold rep held e (Some t)
    due_new = subst (λ y. DueTold rep held e (Some y)) (sym (z ∙ ap (λ k. class_at rep (aim k)) (sym i))) DueTold.due

    pub due_unheld : (On held t → ⊥) → DueTold rep held e None
    due_unheld n = DueTold.nothing (λ y j o. let same : y ≡ x = cc in n (subst (On held) (ap (class_at rep) same ∙ sym z) o))

    pub due_pick : (u : Bool) → Decides u (On held t) → DueTold rep held e (then_some u t)
    due_pick true d = due_new
    due_pick false d = due_unheld (d.no refl)

module _ {rep held : List ℕ} {e : Event} where
  pub due_low : {n : ℕ} → ClassRow n rep → {p : Option ℕ} {t : ℕ} → DueTold rep held e p → p ≡ Some t → (t ≤ 128) × (class_at rep t ≡ t)
  due_low row {t = t} DueTold.due i = let z : class_at rep (aim e) ≡ t = cc in (omega (arith, row.low (aim e), z), subst (λ x. class_at rep x ≡ x) z (row.idem (aim e)))
  due_low row (DueTold.nothing n) i = clash (cc)

  due_told : {p : Option ℕ} {x : ℕ} → DueTold rep held e p → e ≡ MK x → On held (class_at rep x) → p ≡ Some (class_at rep x)
  due_told DueTold.due i o = ap (λ y. Some (class_at rep (aim y))) i
  due_told {x = x} (DueTold.nothing n) i o = absurd (n x i o)

pub due_picks : {P : ℕ → Option ℕ → Type 0} {n p : ℕ} {rep held run m r : List ℕ} → ClassRow n rep → MarkRow rep m →
    ((q : ℕ) (k : Option ℕ) → q < p → P q k → DueTold rep held (event_in (get_or run q 0)) k) → Picks P m r p → Due rep held run r p
due_picks {rep = rep} row marks told w =
    let x = picks_wider (λ q t h p. (due_low row (told q (Some t) h p) refl).1) marks w in
    record { long = x.long; marked = x.marked; makes = λ q y h i o. (let (j, p, u) = w.told q h in u (class_at rep y) (due_told (told q j h p) i o)) }

-- ---- two rows in one

pub joint_picks : {P : ℕ → Option ℕ → Type 0} {a b r : List ℕ} {n : ℕ} →
    ((c : ℕ) (k : Option ℕ) → c < n → P c k → (t : Bool) × (k ≡ then_some t c) × Decides t (On b c)) → Picks P a r n → Joint a b r n
joint_picks told w = record { long = w.long; left = w.kept; right = picks_all told w }
