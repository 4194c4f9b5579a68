-- A mark that a cell adds is right, and a turn of each sweep keeps what the sweep promises.
use mathlib.Core.Path.{◌≡◌, sym, ◌∙◌, ap, subst}
use mathlib.Core.Logic.{inl, inr}
use mathlib.Core.Bool.{Bool, true, true≢false}
use mathlib.Core.List.{List}
use Prim.Native.Nat.{ℕ, ◌+◌, ◌≤◌}
use native.Mathlib.Omega.{arith}
use lib.ListN.{set}
use borrow.Author.Count.{below_more}
use Rattle.model.specs.Case.{Cell, PR, SE, Table, Run, Part, in_left, in_right}
use Rattle.model.proofs.Finite.{eq?}
use Rattle.theory.specs.Cells.{Makes, Opening, class_at, On}
use Rattle.theory.specs.Level.{Mark, seen, built}
use Rattle.theory.proofs.Parts.{makes_parts}
use Rattle.theory.proofs.Sweep.{mark_same, mark_rep}
use Rattle.knowledge.specs.Knowledge.{ClassRow}
use Rattle.knowledge.specs.Sweeps.{left_part, right_part, left_class, right_class, Given, MadeBy, Gives, Adds, Newly, Shows, SeenOnly, BuiltOnly, Rising, Falling}
use Rattle.knowledge.proofs.ByKind.{makes_ends}
use Rattle.theory.proofs.MarkRows.{set_cases}
use Rattle.knowledge.proofs.Grow.{grown_mark, grown_marks}

-- ---- what one cell adds

-- What gives its parts has some.
pub gives_ends : {k : Cell} {rep builts : List ℕ} (c : ℕ) → Gives k rep builts → Part k (left_part k c) × Part k (right_part k c)
gives_ends c (Gives.pairs e) = rw e (in_left, in_right)
gives_ends c (Gives.keys e o) = rw e (in_left, in_right)
gives_ends {k} c (Gives.parts (MadeBy.makes m x y)) =
    let (l, r) = makes_ends c m in
    let (a, b) = makes_parts m in
    (subst (Part k) (sym l) a, subst (Part k) (sym r) b)

module _ (T : Table) {n : ℕ} {rep : List ℕ} (w : ClassRow n rep) (ev : Run) (p : ℕ) (seens builts : List ℕ) (ss : SeenOnly T rep ev p seens) (bs : BuiltOnly T rep ev p builts) (c : ℕ) where
  part_built : {d : ℕ} → On builts (class_at rep d) → Mark T (class_at rep) ev p built d
  part_built {d} o = mark_same T (class_at rep) ev p w.idem (w.idem d) (bs (class_at rep d) o)

  given_mark : {k : Cell} → T (class_at rep c) ≡ k → Given k → Mark T (class_at rep) ev p built c
  given_mark e Given.free = Mark.free e
  given_mark e Given.zero = Mark.zero e

  pub newly_mark : Newly T rep seens builts c → Mark T (class_at rep) ev p built c
  newly_mark x = go x.adds
    where
      go : Adds T rep seens builts c → Mark T (class_at rep) ev p built c
      go (Adds.had o) = Mark.had (ss c o)
      go (Adds.given g) = given_mark (ap T x.stands) g
      go (Adds.made (MadeBy.makes {a = a} {b = b} m i j)) = Mark.makes (subst (λ z. Makes (T z) a b) (sym x.stands) m) (part_built i) (part_built j)

  module _ (s : class_at rep c ≡ c) (h : Mark T (class_at rep) ev p seen c) where
    -- The part of a seen pair, or of a seal with its key,
    pair_seen : {l r d : ℕ} → T c ≡ PR l r → Part (PR l r) d → Mark T (class_at rep) ev p seen d
    pair_seen e in_left = Mark.opens (Opening.lefts (ap T s ∙ e)) h (Mark.had h)
    pair_seen e in_right = Mark.opens (Opening.rights (ap T s ∙ e)) h (Mark.had h)

    seal_seen : {b k d : ℕ} → T c ≡ SE b k → Mark T (class_at rep) ev p built k → Part (SE b k) d → Mark T (class_at rep) ev p seen d
    seal_seen e g in_left = Mark.opens (Opening.bodies (ap T s ∙ e)) h g
    seal_seen {b} {k} e g in_right =
        let i : T (class_at rep c) ≡ SE b k = ap T s ∙ e in
        Mark.parts (subst (λ z. Makes z b k) (sym i) Makes.twos) (subst (λ z. Part z k) (sym i) in_right) h (Mark.had (Mark.opens (Opening.bodies i) h g)) g

    -- and every part of a seen cell that gives them, is seen.
    part_seen : {d : ℕ} → Gives (T c) rep builts → Part (T c) d → Mark T (class_at rep) ev p seen d
    part_seen {d} (Gives.pairs e) q = pair_seen e (subst (λ z. Part z d) e q)
    part_seen {d} (Gives.keys e o) q = seal_seen e (part_built o) (subst (λ z. Part z d) e q)
    part_seen {d} (Gives.parts (MadeBy.makes {a = a} {b = b} m i j)) q =
        Mark.parts (subst (λ z. Makes (T z) a b) (sym s) m) (subst (λ z. Part (T z) d) (sym s) q) h (part_built i) (part_built j)

  pub shows_marks : Shows T rep seens builts c → Mark T (class_at rep) ev p seen (left_class T rep c) × Mark T (class_at rep) ev p seen (right_class T rep c)
  shows_marks x =
      let (l, r) = gives_ends c x.gives in
      let h = ss c x.whole in
      (mark_rep T (class_at rep) ev p w.idem (part_seen x.stands h x.gives l), mark_rep T (class_at rep) ev p w.idem (part_seen x.stands h x.gives r))

-- ---- the sweep upwards

module _ (T : Table) {n : ℕ} {rep : List ℕ} (w : ClassRow n rep) (seens m : List ℕ) where
  module _ {r : List ℕ} {ch : Bool} (c : ℕ) (x : Rising T rep seens m r ch c) where
    pub rising_skip : (Newly T rep seens r c → ⊥) → Rising T rep seens m r ch (c + 1)
    rising_skip old = record { grown = x.grown; sound = x.sound; still = λ e. below_more (λ i. Newly T rep seens r i → ⊥) c (x.still e) old }

    pub rising_mark : c ≤ 128 → Newly T rep seens r c → Rising T rep seens m (set r c 1) true (c + 1)
    rising_mark h y =
        record {
          grown = grown_mark x.grown c h y.stands y.new;
          sound = λ ev p s b d o. elim (set_cases r c d o) [
            | inl q ↦ subst (λ z. Mark T (class_at rep) ev p built z) (sym q) (newly_mark T w ev p seens r s (x.sound ev p s b) c y)
            | inr o' ↦ x.sound ev p s b d o'
          ];
          still = λ e. absurd (true≢false e);
        }

-- ---- the sweep downwards

module _ (T : Table) {n : ℕ} {rep : List ℕ} (w : ClassRow n rep) (builts m : List ℕ) where
  module _ {r : List ℕ} {ch : Bool} (c u : ℕ) (next : u ≡ c + 1) (x : Falling T rep builts m r ch n u) where
    pub falling_skip : (Shows T rep r builts c → ⊥) → Falling T rep builts m r ch n c
    falling_skip old = record {
      grown = x.grown;
      sound = x.sound;
      still = λ e d h g. elim (eq? d c) [
        | inl q ↦ subst (λ z. Shows T rep r builts z → ⊥) (sym q) old
        | inr o ↦ x.still e d (omega arith) g
      ];
    }

    pub falling_mark : (a b : ℕ) → a ≡ left_class T rep c → b ≡ right_class T rep c → Shows T rep r builts c → Falling T rep builts m (set (set r a 1) b 1) true n c
    falling_mark a b l t y =
        let lowA : a ≤ 128 = omega (arith, w.low (left_part (T c) c)) in
        let lowB : b ≤ 128 = omega (arith, w.low (right_part (T c) c)) in
        record {
          grown = grown_marks x.grown a b lowA lowB (subst (λ z. class_at rep z ≡ z) (sym l) (w.idem (left_part (T c) c)))
              (subst (λ z. class_at rep z ≡ z) (sym t) (w.idem (right_part (T c) c))) (λ o o'. y.new (subst (On r) l o) (subst (On r) t o'));
          sound = λ ev p s q d o.
              let both = shows_marks T w ev p r builts (x.sound ev p s q) q c y in
              elim (set_cases (set r a 1) b d o) [
                | inl e ↦ subst (λ z. Mark T (class_at rep) ev p seen z) (sym (e ∙ t)) both.1
                | inr o' ↦ elim (set_cases r a d o') [
                  | inl e ↦ subst (λ z. Mark T (class_at rep) ev p seen z) (sym (e ∙ l)) both.0
                  | inr o'' ↦ x.sound ev p s q d o''
                ]
              ];
          still = λ e. absurd (true≢false e);
        }
