-- Joins of cells that are alike keep solved classes solved, and the messages that satisfy them; where none is left, cells that are alike are of one class.
use mathlib.Core.Path.{◌≡◌, refl, sym, ◌∙◌, ap, subst}
use mathlib.Core.Bool.{Bool, true, false, cond, true≢false}
use mathlib.Core.List.{List}
use mathlib.Core.Logic.{inl, inr}
use Prim.Native.Nat.{ℕ, ◌+◌, ◌<◌}
use native.Mathlib.Omega.{arith}
use native.Mathlib.Decide.{dec_lt}
use lib.Dec.{eqb}
use lib.ListN.{get_or, set}
use borrow.Author.Count.{below_more}
use borrow.Author.Tests.{eq-eqb, ne_eqb}
use Rattle.model.specs.Message.{Message, atom}
use Rattle.model.specs.Case.{Cell, AT, VA, ONE, TWO, Table, Reads}
use Rattle.model.specs.Stored.{table_in}
use Rattle.model.proofs.Finite.{eq?}
use Rattle.model.proofs.Steps.{size}
use Rattle.theory.specs.Cells.{TableWords, class_at}
use Rattle.theory.specs.Classes.{Alike, atoms, Closed, Sat}
use Rattle.theory.proofs.Classes.{alike_parts, alike_sym, alike_solid, alike_look, reads_ranked}
use Rattle.theory.proofs.Level.{class_reads}
use Rattle.classes.specs.Kept.{Kept, Finite, Solved, Joined}
use Rattle.classes.specs.Settle.{Moved}
use Rattle.classes.specs.Links.{key_of, Parted, one, two, Linkable, Linked, Downward}
use Rattle.classes.specs.Upward.{Fellow, Met, Meets, Lifts}
use Rattle.classes.proofs.LinkLaws.{down_skip, down_more, linked_none, linked_skip, linked_more, linked_leads}
use Rattle.classes.proofs.TwinLaws.{alike_trans, alike_self}
use Rattle.classes.proofs.SolvedLaws.{solved_met}
use Rattle.classes.proofs.SettleLaws.{moved_none, moved_join, moved_more, moved_stay}

-- Of cells that are alike, those that stand for their classes are alike.
reps_alike : (T : Table) (cls : ℕ → ℕ) → Closed T cls → (c d : ℕ) → Alike cls (T c) (T d) → Alike cls (T (cls c)) (T (cls d))
reps_alike T cls closed c d h = alike_trans (alike_sym (closed c (alike_solid (alike_sym h)))) (alike_trans h (closed d (alike_solid h)))

-- ---- one join of cells that are alike

module _ (n : ℕ) (T : Table) (rep out : List ℕ) (a b : ℕ) (w : Solved n T rep) (same : Alike (class_at rep) (T a) (T b)) (j : Joined n T rep a b out) where
  abbrev cls : ℕ → ℕ
  cls = class_at rep

  abbrev new : ℕ → ℕ
  new = class_at out

  -- All messages that satisfy the classes make them equal.
  equal : (m : ℕ → Message) → Reads T m m → Sat cls m → m a ≡ m b
  equal m mr s = mr a ∙ alike_look (m a) (m b) (alike_parts (λ d d' q q' e. s d ∙ ap m e ∙ sym (s d')) same) ∙ sym (mr b)

  -- What was of one class is of one class.
  coarser : (c : ℕ) → new c ≡ new (cls c)
  coarser c = let z : atom (new c) ≡ atom (new (cls c)) = ((j.sat (λ d. atom (new d))).0 (λ d. ap atom (sym (j.kept.reps.idem d)))).0 c in cc

  -- The class x, or that of a where x is the class of b.
  abbrev put : ℕ → ℕ
  put x = cond (eqb x (cls b)) (cls a) x

  put_yes : (x : ℕ) → x ≡ cls b → put x ≡ cls a
  put_yes x e = rw (eq-eqb x (cls b) e)

  put_no : (x : ℕ) → (x ≡ cls b → ⊥) → put x ≡ x
  put_no x ne = rw (ne_eqb x (cls b) ne)

  put_both : put (cls a) ≡ put (cls b)
  put_both = elim (eq? (cls a) (cls b)) [ inl e ↦ ap put e | inr ne ↦ put_no (cls a) ne ∙ sym (put_yes (cls b) refl) ]

  put_new : (c : ℕ) → put (cls c) ≡ put (cls (new c))
  put_new c =
      let z : atom (put (cls c)) ≡ atom (put (cls (new c))) =
      (j.sat (λ d. atom (put (cls d)))).1 (λ d. ap (λ x. atom (put x)) (sym (w.kept.reps.idem d)), ap atom put_both) c in
      cc

  -- Cells are alike if those are that stand for their classes.
  near : (c d : ℕ) → (T c ≡ VA → ⊥) → (T d ≡ VA → ⊥) → Alike cls (T (cls c)) (T (cls d)) → Alike cls (T c) (T d)
  near c d sc sd h = alike_trans (w.closed c sc) (alike_trans h (alike_sym (w.closed d sd)))

  both : Alike cls (T (cls a)) (T (cls b))
  both = reps_alike T cls w.closed a b same

  at : (x y : ℕ) → (T x ≡ VA → ⊥) → put x ≡ put y → Alike cls (T x) (T y)
  at x y s e = elim (eq? x (cls b)) [
    | inl i ↦ elim (eq? y (cls b)) [
      | inl k ↦ subst (λ z. Alike cls (T x) (T z)) (i ∙ sym k) (alike_self (T x) s)
      | inr ne ↦
          let k : cls a ≡ y = sym (put_yes x i) ∙ e ∙ put_no y ne in
          subst (λ z. Alike cls (T x) (T z)) k (subst (λ z. Alike cls (T z) (T (cls a))) (sym i) (alike_sym both))
    ]
    | inr ne ↦ elim (eq? y (cls b)) [
      | inl k ↦
          let i : x ≡ cls a = sym (put_no x ne) ∙ e ∙ put_yes y k in
          subst (λ z. Alike cls (T x) (T z)) (sym k) (subst (λ z. Alike cls (T z) (T (cls b))) (sym i) both)
      | inr ny ↦ subst (λ z. Alike cls (T x) (T z)) (sym (put_no x ne) ∙ e ∙ put_no y ny) (alike_self (T x) s)
    ]
  ]

  closed : Closed T new
  closed c s =
      alike_parts (λ d d' q q' e. coarser d ∙ ap new e ∙ sym (coarser d'))
      (near c (new c) s (j.kept.reps.solid c s) (at (cls c) (cls (new c)) (w.kept.reps.solid c s) (put_new c)))

  finite : Finite T new
  finite =
      let (τ, g, mr, s) = solved_met n T rep w (λ y. atom 0) in
      (λ c. size (τ c), reads_ranked (λ c. T (new c)) τ τ (class_reads T new τ mr ((j.sat τ).1 (s, equal τ mr s))))

  -- So they may be joined.
  alike_join : (class_at rep a ≡ class_at rep b → ⊥) → Moved T (Solved n T) rep out true
  alike_join ne = moved_join j (record { kept = j.kept; closed = closed; finite = finite }) ne equal

-- ---- cells without parts

name_alike : {f : ℕ → ℕ} {p : ℕ} {k : Cell} → Alike f (AT p) k → k ≡ AT p
name_alike atoms = refl

-- Names of one name are of one class, and a variable is alike nothing.
met_cell : {n : ℕ} {T : Table} {rep : List ℕ} → Kept n T rep → (c : ℕ) (k : Cell) → T c ≡ k → (Parted k → ⊥) → Met T (class_at rep) c
met_cell {n} {T} {rep} w c (AT p) e h = λ own d l own' a.
    let same = w.names c d p e (name_alike (subst (λ z. Alike (class_at rep) z (T d)) e a)) in
    omega arith
met_cell {n} {T} {rep} w c VA e h = λ own d l own' a. elim (subst (λ z. Alike (class_at rep) z (T d)) e a) [ ]
met_cell w c (ONE g b) e h = absurd (h one)
met_cell w c (TWO g l r) e h = absurd (h two)

-- ---- one cell

module _ {n : ℕ} {T : Table} {rep tops links : List ℕ} {c : ℕ} (w : Solved n T rep) (v : Downward c tops links) where
  -- It is left.
  meets_stay : Met T (class_at rep) c → (Linkable T (class_at rep) c → ⊥) → Meets n T c rep tops links rep tops links false
  meets_stay met bar = record { moved = moved_none rep w; down = down_skip v; met = λ _ l. (met, linked_skip l bar) }

  pub meets_plain : (Parted (T c) → ⊥) → Meets n T c rep tops links rep tops links false
  meets_plain h = meets_stay (met_cell w.kept c (T c) refl h) (λ l. h l.1)

  pub meets_under : (class_at rep c ≡ c → ⊥) → Meets n T c rep tops links rep tops links false
  meets_under ne = meets_stay (λ e. absurd (ne e)) (λ l. ne l.0)

  -- It is linked, or joined with its fellow t.
  module _ (k : ℕ) {t : ℕ} (f : Fellow T (class_at rep) links (get_or tops k 0) c t) (own : class_at rep c ≡ c) where
    pub meets_link : k ≡ key_of (class_at rep) (T c) → Parted (T c) → k < 256 → c < 129 → t ≡ c →
        Meets n T c rep tops links rep (set tops k (c + 1)) (set links c (get_or tops k 0)) false
    meets_link e parts hk hc i =
        record {
          moved = moved_none rep w;
          down = down_more v k hk hc;
          met = λ _ l. (
            λ _ d h. f.miss (linked_leads l (own, parts) e) d (omega arith),
            linked_more l (own, parts) e (omega (arith, v.bytes)) (omega (arith, v.long)),
          );
        }

    pub meets_join : {out : List ℕ} → (t ≡ c → ⊥) → Joined n T rep t c out → Meets n T c rep tops links out tops links true
    meets_join {out} ne j =
        let h : t < c = omega (arith, f.low) in
        record {
          moved = alike_join n T rep out t c w (alike_sym (f.hit h)) j (λ e. ne (sym (f.stands h) ∙ e ∙ own));
          down = down_skip v;
          met = λ e. absurd (true≢false e);
        }

-- ---- sweeps

-- A sweep over the cells below c, with links that are right as long as nothing changed.
pub record Lifting (n : ℕ) (T : Table) (rep : List ℕ) (c : ℕ) (out tops links : List ℕ) (changed : Bool) : Type 0 where
  pub lifts : Lifts n T rep c out changed
  pub down : Downward c tops links
  pub linked : changed ≡ false → Linked T (class_at rep) c tops links

module _ {n : ℕ} {T : Table} {rep : List ℕ} where
  pub lifting_none : Solved n T rep → {tops links : List ℕ} → Downward 0 tops links → Lifting n T rep 0 rep tops links false
  lifting_none w v =
      record { lifts = record { moved = moved_none rep w; met = λ _ c h. absurd (omega arith) }; down = v; linked = λ _. linked_none v }

  module _ {c : ℕ} {out tops links out' tops' links' : List ℕ} {old new : Bool} (v : Lifting n T rep c out tops links old)
      (w : Meets n T c out tops links out' tops' links' new) where
    pub lifting_more : new ≡ true → Lifting n T rep (c + 1) out' tops' links' true
    lifting_more e =
        record {
          lifts = record { moved = moved_more v.lifts.moved w.moved e; met = λ i. absurd (true≢false i) };
          down = w.down;
          linked = λ i. absurd (true≢false i);
        }

    module _ (e : new ≡ false) where
      still : old ≡ false → Met T (class_at rep) c × Linked T (class_at rep) (c + 1) tops' links'
      still i =
          let same : out ≡ rep = v.lifts.moved.still i in
          subst (λ (l : List ℕ). Met T (class_at l) c × Linked T (class_at l) (c + 1) tops' links') same
          (w.met e (subst (λ (l : List ℕ). Linked T (class_at l) c tops links) (sym same) (v.linked i)))

      pub lifting_stay : Lifting n T rep (c + 1) out' tops' links' old
      lifting_stay =
          record {
            lifts = record {
              moved = moved_stay v.lifts.moved w.moved e;
              met = λ i. below_more (Met T (class_at rep)) c (v.lifts.met i) (still i).0;
            };
            down = w.down;
            linked = λ i. (still i).1;
          }

-- ---- nothing is left to join

module _ {n : ℕ} {words rep : List ℕ} (w : TableWords n words) (v : Solved n (table_in words) rep)
    (met : (c : ℕ) → c < n → Met (table_in words) (class_at rep) c) where
  abbrev S : Table
  S = table_in words

  abbrev mine : ℕ → ℕ
  mine = class_at rep

  -- Of two cells that stand for their classes and are alike neither is the higher one.
  up_reps : (a b : ℕ) → a < n → b < n → mine a ≡ a → mine b ≡ b → Alike mine (S a) (S b) → a ≡ b
  up_reps a b ha hb ea eb h = elim (dec_lt a b) [
    | yes l ↦ absurd (met b hb eb a l ea (alike_sym h))
    | no m ↦ elim (dec_lt b a) [ yes l ↦ absurd (met a ha ea b l eb h) | no o ↦ omega arith ]
  ]

  up_cells : (c d : ℕ) → c < n → d < n → Alike mine (S c) (S d) → mine c ≡ mine d
  up_cells c d hc hd h =
      let k = v.kept in
      up_reps (mine c) (mine d) (k.inside c hc) (k.inside d hd) (k.reps.idem c) (k.reps.idem d) (reps_alike S mine v.closed c d h)

  up_name : (c d : ℕ) → S c ≡ AT 0 → Alike mine (S c) (S d) → mine c ≡ mine d
  up_name c d e h = v.kept.names c d 0 e (name_alike (subst (λ z. Alike mine z (S d)) e h))

  pub met_up : (c d : ℕ) → Alike (class_at rep) (S c) (S d) → class_at rep c ≡ class_at rep d
  met_up c d h = elim (dec_lt c n) [
    | no a ↦ up_name c d (w.beyond c (omega arith)) h
    | yes a ↦ elim (dec_lt d n) [
      | no b ↦ sym (up_name d c (w.beyond d (omega arith)) (alike_sym h))
      | yes b ↦ up_cells c d a b h
    ]
  ]
