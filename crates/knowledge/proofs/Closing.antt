-- Marks on the way, and that marks at which two sweeps in turn change nothing are exactly what is seen and built.
use mathlib.Core.Path.{◌≡◌, sym, ◌∙◌, ap, subst}
use mathlib.Core.Logic.{◌⊎◌, inl, inr, ◌↔◌}
use mathlib.Core.Bool.{Bool, false}
use mathlib.Core.List.{List}
use Prim.Native.Nat.{ℕ, ◌≤◌, ◌<◌}
use native.Mathlib.Omega.{arith}
use native.Mathlib.Decide.{dec_lt}
use Rattle.model.specs.Case.{AT, Table, Run, Part}
use Rattle.model.proofs.Rows.{no_part}
use Rattle.theory.specs.Cells.{Opening, class_at, On}
use Rattle.theory.specs.Level.{Side, seen, built, Mark}
use Rattle.theory.specs.Sweep.{Swept}
use Rattle.theory.proofs.Parts.{opening_part}
use Rattle.theory.proofs.Sweep.{On as sideOn, mark_exact}
use Rattle.knowledge.specs.Knowledge.{ClassRow, MarkRow, Starts, Opened}
use Rattle.knowledge.specs.Sweeps.{left_class, right_class, Given, MadeBy, Gives, Adds, Newly, Shows, SeenOnly, BuiltOnly, Turned, OwnMarks}
use Rattle.knowledge.proofs.ByKind.{part_ends}
use Rattle.theory.proofs.MarkRows.{on?}

-- ---- the marks on the way

-- The marks s and b come from s₀ and b₀ by sweeps.
pub record Between (T : Table) (rep s₀ b₀ s b : List ℕ) : Type 0 where
  pub seen_marked : MarkRow rep s
  pub built_marked : MarkRow rep b
  pub seen_kept : (c : ℕ) → On s₀ c → On s c
  pub built_kept : (c : ℕ) → On b₀ c → On b c
  pub seen_sound : (ev : Run) (p : ℕ) → SeenOnly T rep ev p s₀ → BuiltOnly T rep ev p b₀ → SeenOnly T rep ev p s
  pub built_sound : (ev : Run) (p : ℕ) → SeenOnly T rep ev p s₀ → BuiltOnly T rep ev p b₀ → BuiltOnly T rep ev p b

pub between_turn : {T : Table} {n : ℕ} {rep s₀ b₀ s b s' b' : List ℕ} {ch : Bool} → Between T rep s₀ b₀ s b → Turned T n rep s b s' b' ch → Between T rep s₀ b₀ s' b'
between_turn x t = record {
  seen_marked = t.seen_marked;
  built_marked = t.built_marked;
  seen_kept = λ c o. t.seen_kept c (x.seen_kept c o);
  built_kept = λ c o. t.built_kept c (x.built_kept c o);
  seen_sound = λ ev p u v. t.seen_sound ev p (x.seen_sound ev p u v) (x.built_sound ev p u v);
  built_sound = λ ev p u v. t.built_sound ev p (x.seen_sound ev p u v) (x.built_sound ev p u v);
}

-- ---- marks at which nothing changes

below? : (c n : ℕ) → (c < n) ⊎ (n ≤ c)
below? c n = elim (dec_lt c n) [ yes h ↦ inl h | no h ↦ inr (omega arith) ]

module _ (T : Table) {n : ℕ} {rep : List ℕ} (w : ClassRow n rep) (beyond : (c : ℕ) → n ≤ c → T c ≡ AT 0) {b₀ : List ℕ} (own : OwnMarks n rep b₀) where
  -- The first mark of a built cell is right.
  pub own_sound : (ev : Run) (p : ℕ) → BuiltOnly T rep ev p b₀
  own_sound ev p c o =
      let (e, h) = own.only c o in
      Mark.zero (ap T (ap (class_at rep) e ∙ (w.idem 128 ∙ sym e)) ∙ beyond c h)

  -- A cell beyond the table's that stands for its class has it.
  own_on : (c : ℕ) → n ≤ c → class_at rep c ≡ c → On b₀ c
  own_on c h s = let e : class_at rep 128 ≡ c = sym (w.beyond c h) ∙ s in subst (On b₀) e (own.own (subst (λ z. n ≤ z) (sym e) h))

  -- It has no part.
  whole : (c d : ℕ) → n ≤ c → Part (T c) d → ⊥
  whole c d h q = no_part (subst (λ k. Part k d) (beyond c h) q)

  module _ (s b : List ℕ) (kept : (c : ℕ) → On b₀ c → On b c) (still : (c : ℕ) → c < n → (Newly T rep s b c → ⊥) × (Shows T rep s b c → ⊥)) where
    built_on : (c : ℕ) → c < n → class_at rep c ≡ c → Adds T rep s b c → On b c
    built_on c h e k = elim (on? b c) [ inl o ↦ o | inr x ↦ absurd ((still c h).0 (record { stands = e; new = x; adds = k })) ]

    ends_on : (c : ℕ) → c < n → class_at rep c ≡ c → On s c → Gives (T c) rep b → On s (left_class T rep c) × On s (right_class T rep c)
    ends_on c h e o g = elim (on? s (left_class T rep c)) [
      | inr x ↦ absurd ((still c h).1 (record { stands = e; whole = o; gives = g; new = λ l r. x l }))
      | inl l ↦ elim (on? s (right_class T rep c)) [
        | inl r ↦ (l, r)
        | inr x ↦ absurd ((still c h).1 (record { stands = e; whole = o; gives = g; new = λ l r. x r }))
      ]
    ]

    -- A part of what gives its parts; there is one only of a cell of the table.
    part_on : (c d : ℕ) → class_at rep c ≡ c → On s c → Gives (T c) rep b → Part (T c) d → On s (class_at rep d)
    part_on c d e o g q = elim (below? c n) [
      | inl h ↦ (let (l, r) = ends_on c h e o g in
          elim (part_ends c q) [ inl z ↦ subst (λ k. On s (class_at rep k)) z l | inr z ↦ subst (λ k. On s (class_at rep k)) z r ])
      | inr h ↦ absurd (whole c d h q)
    ]

    opening_gives : {c k d : ℕ} → Opening T c k d → On b (class_at rep k) → Gives (T c) rep b
    opening_gives (Opening.lefts q) x = Gives.pairs q
    opening_gives (Opening.rights q) x = Gives.pairs q
    opening_gives (Opening.bodies q) x = Gives.keys q x

    adds_on : (c : ℕ) → class_at rep c ≡ c → Adds T rep s b c → On b c
    adds_on c e k = elim (below? c n) [ inl h ↦ built_on c h e k | inr h ↦ kept c (own_on c h e) ]

    pub still_swept : (ev : Run) (p : ℕ) (s₀ : List ℕ) → ((c : ℕ) → On s₀ c → On s c) → Starts T rep ev p s₀ → Swept T (class_at rep) ev p (On s) (On b)
    still_swept ev p s₀ from st = record {
      learnt = λ c h. from (class_at rep c) (st.low c h);
      opens = λ c k d e o x y. part_on c d e x (opening_gives o y) (opening_part o);
      parts = λ c i j d e m q o x y. part_on c d e o (Gives.parts (MadeBy.makes m x y)) q;
      free = λ c e q. adds_on c e (Adds.given (subst Given (sym q) Given.free));
      zero = λ c e q. adds_on c e (Adds.given (subst Given (sym q) Given.zero));
      had = λ c e o. adds_on c e (Adds.had o);
      makes = λ c i j e m x y. adds_on c e (Adds.made (MadeBy.makes m x y));
    }

  -- So where a turn changes nothing, the marks are found.
  pub opened : {s₀ s b s' b' : List ℕ} {ch : Bool} → Between T rep s₀ b₀ s b → Turned T n rep s b s' b' ch → ch ≡ false → Opened T rep s₀ (record { seen = s'; built = b' })
  opened {s₀} {s} {b} {s'} {b'} x t stopped = record {
    seen = λ ev p st c. ((exact ev p st seen c).1, (exact ev p st seen c).0);
    built = λ ev p st c. ((exact ev p st built c).1, (exact ev p st built c).0);
    seen_marked = t.seen_marked;
    built_marked = t.built_marked;
  }
    where
      y : Between T rep s₀ b₀ s' b'
      y = between_turn x t

      sound : (ev : Run) (p : ℕ) → Starts T rep ev p s₀ → (side : Side) (c : ℕ) → sideOn (On s') (On b') side c → Mark T (class_at rep) ev p side c
      sound ev p st seen c o = y.seen_sound ev p st.high (own_sound ev p) c o
      sound ev p st built c o = y.built_sound ev p st.high (own_sound ev p) c o

      exact : (ev : Run) (p : ℕ) → Starts T rep ev p s₀ → (side : Side) (c : ℕ) → Mark T (class_at rep) ev p side c ↔ sideOn (On s') (On b') side (class_at rep c)
      exact ev p st = mark_exact T (class_at rep) ev p w.idem (On s') (On b') (still_swept s' b' y.built_kept (t.still stopped) ev p s₀ y.seen_kept st) (sound ev p st)
