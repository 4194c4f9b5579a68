-- Rounds of the rules, and that marks at which no rule adds one are closed as the rule of the keys asks.
use mathlib.Core.Path.{◌≡◌, refl, sym, ◌∙◌, subst}
use mathlib.Core.Logic.{◌⊎◌, inl, inr}
use mathlib.Core.Bool.{Bool, true, false, true≢false}
use mathlib.Core.List.{List}
use mathlib.Core.Option.{some, none}
use Prim.Native.Nat.{ℕ, ◌+◌, ◌≤◌, ◌<◌}
use native.Mathlib.Omega.{arith}
use native.Mathlib.Decide.{dec_lt}
use Rattle.model.specs.Case.{Cell, MK, LN, Table, Run, Learnt}
use Rattle.model.specs.Stored.{table_in, run_in}
use Rattle.model.proofs.Read.{clash}
use Rattle.theory.specs.Cells.{TableWords, class_at, On}
use Rattle.theory.specs.Cut.{Place, at_arg, at_left, at_right, Mays, Granted}
use Rattle.theory.specs.Sweep.{Swept}
use Rattle.theory.proofs.MarkRows.{on?}
use Rattle.theory.proofs.Parts.{makes_parts}
use Rattle.theory.proofs.Rows.{rows_var, rows_part}
use Rattle.knowledge.specs.Knowledge.{ClassRow, MarkRow, Learns}
use Rattle.knowledge.specs.Sweeps.{left_part, right_part, missing, MadeBy, Adds, Newly, Shows, Turned, OwnMarks}
use Rattle.knowledge.proofs.Grow.{no_marks, none_on}
use Rattle.knowledge.proofs.Closing.{still_swept}
use Rattle.knowledge.proofs.Start.{starts_none}
use Rattle.wants.specs.Starts.{FreeAt}
use Rattle.wants.specs.Sets.{NeedRow}
use Rattle.wants.proofs.SetLaws.{rows_sets}
use Rattle.granting.specs.Meets.{May, Granting}
use Rattle.granting.specs.Leaks.{Tight, Leaked}
use Rattle.granting.specs.Grants.{Still, More, Rounded}
use Rattle.granting.specs.Line.{Whole}
use Rattle.granting.proofs.KinLaws.{kin_below}

-- What may not be equal is not.
pub may_mays : (T : Table) (rep : List ℕ) (ev : Run) → Mays T ev (class_at rep) (May T rep)
may_mays T rep ev c d i j kin two never m mr right ms e = never (record { kin = kin; apart = λ z. two (sym i ∙ (z ∙ j)); meet = λ none. none m mr ms e })

-- ---- rounds

module _ {T : Table} {n : ℕ} {rep run : List ℕ} {p : ℕ} {s b s' b' : List ℕ} {ch : Bool} (t : Turned T n rep s b s' b' ch) (down : missing s' + missing b' ≤ missing s + missing b) {need b₂ : List ℕ} {ch₂ : Bool} (g : Granting T n rep need s' b' b₂ ch₂ n) where
  pub rounded_grant : ch₂ ≡ true → Rounded T n rep run p s b s' b₂ ch₂
  rounded_grant i = record {
    more = record { seen_marked = t.seen_marked; built_marked = g.grown.marked; seen_kept = t.seen_kept; built_kept = λ c o. g.grown.kept c (t.built_kept c o) };
    still = λ j. absurd (true≢false (sym i ∙ j));
    moved = λ j. omega (arith, down, g.grown.moved i);
  }

  -- Where no rule adds a mark.
  still_all : ch ≡ false → ch₂ ≡ false → NeedRow T rep s' b' need → Tight T n rep run p s' → Still T n rep run p s' b₂
  still_all i j needs tight =
      let e : b₂ ≡ b' = g.grown.same j in
      record {
        still = subst (λ z. (c : ℕ) → c < n → (Newly T rep s' z c → ⊥) × (Shows T rep s' z c → ⊥)) (sym e) (t.still i);
        need = need;
        needs = subst (λ z. NeedRow T rep s' z need) (sym e) needs;
        earns = g.still j;
        tight = tight;
      }

  pub rounded_leak : ch ≡ false → ch₂ ≡ false → NeedRow T rep s' b' need → {s₂ : List ℕ} {ch₃ : Bool} → Leaked T n rep run p s' s₂ ch₃ → Rounded T n rep run p s b s₂ b₂ ch₃
  rounded_leak i j needs {s₂} {ch₃} l = record {
    more = record {
      seen_marked = l.grown.marked;
      built_marked = g.grown.marked;
      seen_kept = λ c o. l.grown.kept c (t.seen_kept c o);
      built_kept = λ c o. g.grown.kept c (t.built_kept c o);
    };
    still = λ f.
        let e : s₂ ≡ s' = l.grown.same f in
        subst (λ z. Still T n rep run p z b₂) (sym e) (still_all i j needs (subst (λ z. Tight T n rep run p z) e (l.tight f)));
    moved = λ f. omega (arith, down, g.grown.down, l.grown.moved f);
  }

-- ---- rounds until nothing changes

module _ {rep s b : List ℕ} where
  pub more_none : MarkRow rep s → MarkRow rep b → More rep s b s b
  more_none x y = record { seen_marked = x; built_marked = y; seen_kept = λ c o. o; built_kept = λ c o. o }

  pub more_more : {s₁ b₁ s₂ b₂ : List ℕ} → More rep s b s₁ b₁ → More rep s₁ b₁ s₂ b₂ → More rep s b s₂ b₂
  more_more x y = record {
    seen_marked = y.seen_marked;
    built_marked = y.built_marked;
    seen_kept = λ c o. y.seen_kept c (x.seen_kept c o);
    built_kept = λ c o. y.built_kept c (x.built_kept c o);
  }

-- ---- marks at which no rule adds one

place_side : {k k' : Cell} {x x' : ℕ} (c d : ℕ) → Place k k' x x' → ((left_part k c ≡ x) × (left_part k' d ≡ x')) ⊎ ((right_part k c ≡ x) × (right_part k' d ≡ x'))
place_side c d at_arg = inl (refl, refl)
place_side c d at_left = inl (refl, refl)
place_side c d at_right = inr (refl, refl)

module _ {n : ℕ} {words rep : List ℕ} (w : TableWords n words) {run : List ℕ} {p : ℕ} {s b : List ℕ} (h : Still (table_in words) n rep run p s b) where
  abbrev T : Table
  T = table_in words

  -- A key that may be equal to a seen cell is built.
  grant_on : (c d : ℕ) → On h.need c → On s d → May T rep c d → On b c
  grant_on c d k o m = elim (on? b c) [
    | inl i ↦ i
    | inr i ↦ (let (l, g) = kin_below w c d m.kin in absurd (h.earns c l (record { key = k; new = i; cell = d; below = g; whole = o; may = m })))
  ]

  -- A cell that is made of built cells is built.
  pub still_whole : Whole T rep b
  still_whole c i j e m x y = elim (on? b c) [
    | inl o ↦ o
    | inr o ↦ absurd ((h.still c (rows_part w c i (makes_parts m).0).0).0 (record { stands = e; new = o; adds = Adds.made (MadeBy.makes m x y) }))
  ]

  -- What may leak is seen.
  leak_on : (c d x x' : ℕ) → On h.tight.over c → On h.tight.held (class_at rep x) → Place (T c) (T d) x x' → On s d → May T rep c d → On s (class_at rep x')
  leak_on c d x x' o g q sd m = elim (on? s (class_at rep x')) [
    | inl i ↦ i
    | inr i ↦ absurd (h.tight.still c (kin_below w c d m.kin).0 o d (kin_below w c d m.kin).1 (record {
      whole = sd;
      may = m;
      part = elim (place_side c d q) [
        | inl (u, v) ↦ inl (subst (λ z. On h.tight.held (class_at rep z)) (sym u) g, subst (λ z. On s (class_at rep z) → ⊥) (sym v) i)
        | inr (u, v) ↦ inr (subst (λ z. On h.tight.held (class_at rep z)) (sym u) g, subst (λ z. On s (class_at rep z) → ⊥) (sym v) i)
      ];
    }))
  ]

  module _ (row : ClassRow n rep) {b₀ : List ℕ} (own : OwnMarks n rep b₀) (kept : (c : ℕ) → On b₀ c → On b c) where
    -- The rules that grant nothing, as of an empty run.
    quiet : Swept T (class_at rep) (λ q. none) 0 (On s) (On b)
    quiet = still_swept T row w.beyond own s b kept h.still (λ q. none) 0 no_marks (λ c o. absurd (none_on c o)) (starts_none T row (λ q. none))

    pub still_marks : (ev : Run) → ((c : ℕ) → Learnt ev p c → On s (class_at rep c)) → Swept T (class_at rep) ev p (On s) (On b)
    still_marks ev learnt = record {
      learnt = learnt;
      opens = quiet.opens;
      parts = quiet.parts;
      free = quiet.free;
      zero = quiet.zero;
      had = quiet.had;
      makes = quiet.makes;
    }

    pub still_granted : (count : ℕ) → ((c : ℕ) → Learnt (run_in count run) p c → On s (class_at rep c)) →
        Granted T (class_at rep) (run_in count run) p (May T rep) (On s) (On b) (On h.need) (On h.tight.held) (On h.tight.over)
    still_granted count learnt = record {
      sets = rows_sets w row count p (still_marks (run_in count run) learnt) h.needs h.tight.holds h.tight.tops;
      grants = λ c d i j k o m. grant_on c d k o m;
      leak = λ c d x x' i j o g q sd. elim (on? s (class_at rep x')) [ inl y ↦ inl y | inr y ↦ inr (λ m. y (leak_on c d x x' o g q sd m)) ];
    }

-- Where no free class is seen nothing leaks, at whatever position.
pub calm_still : {n : ℕ} {words rep : List ℕ} → TableWords n words → {run : List ℕ} {p : ℕ} {s b : List ℕ} → ((c : ℕ) → c < n → FreeAt (table_in words) s c → ⊥) →
    Still (table_in words) n rep run p s b → (q : ℕ) → Still (table_in words) n rep run q s b
calm_still {rep = rep} w calm h q = record {
  still = h.still;
  need = h.need;
  needs = h.needs;
  earns = h.earns;
  tight = record {
    held = no_marks;
    over = no_marks;
    holds = record {
      here = λ c i v o. absurd (calm c (rows_var w c v) (o, v));
      up = λ c d i p o. absurd (none_on (class_at rep d) o);
    };
    tops = record { due = λ l x h e o. absurd (none_on (class_at rep x) o); parts = λ c d i o. absurd (none_on c o) };
    still = λ c l o. absurd (none_on c o);
  };
}

-- ---- what is learnt

module _ (rep : List ℕ) (ev : Run) where
  -- The marks hold what is learnt before p.
  abbrev pub Heard : ℕ → List ℕ → Type 0
  Heard p s = (c : ℕ) → Learnt ev p c → On s (class_at rep c)

  pub heard_none : (s : List ℕ) → Heard 0 s
  heard_none s c (q, lt, e) = absurd (omega arith)

  pub heard_more : (p : ℕ) (s s' : List ℕ) → Heard p s → ((c : ℕ) → On s c → On s' c) → Heard p s'
  heard_more p s s' h k c l = k (class_at rep c) (h c l)

  pub heard_make : (p t : ℕ) (s : List ℕ) → Heard p s → ev p ≡ some (MK t) → Heard (p + 1) s
  heard_make p t s h at c (q, lt, e) = elim (dec_lt q p) [
    | yes l ↦ h c (q, l, e)
    | no g ↦ (let z : q ≡ p = omega arith in clash (cc))
  ]

  pub heard_learn : (p x y : ℕ) (s r : List ℕ) → Heard p s → ev p ≡ some (LN x) → y ≡ x → Learns rep s y r → Heard (p + 1) r
  heard_learn p x y s r h at j l c (q, lt, e) = elim (dec_lt q p) [
    | yes g ↦ l.kept (class_at rep c) (h c (q, g, e))
    | no g ↦ (
        let i : q ≡ p = omega arith in
        let z : y ≡ c = cc in
        subst (λ k. On r (class_at rep k)) z l.learnt)
  ]
