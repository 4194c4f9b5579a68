-- The plan stands for the reduced file: the bare cells are the bare messages except name 0, the kept cells all that stands in them.
use mathlib.Core.Path.{◌≡◌, refl, sym, ◌∙◌, ap, subst}
use mathlib.Core.Bool.{cond}
use mathlib.Core.Logic.{◌↔◌, ◌⊎◌}
use mathlib.Core.List.{List, Memᴰ}
use Prim.Native.Nat.{ℕ, ◌≤◌, ◌<◌}
use native.Mathlib.Omega.{arith}
use native.Mathlib.Decide.{dec_lt}
use lib.Dec.{ltb}
use lib.ListN.{length, get_or, get_or-eq_default}
use borrow.Author.Tests.{lt-ltb, le-ltb}
use Rattle.model.specs.Message.{App, Two, Message, atom, Made, Built, Held}
use Rattle.model.specs.Case.{Cell, AT, VA, ONE, TWO, Table, Run, look, Ground, Heard, table_of}
use Rattle.model.specs.Reduce.{Uncomposed, Rest, Inside, whole, deeper, Lists, Reduces}
use Rattle.model.specs.Stored.{table_in}
use Rattle.model.proofs.Steps.{made_one, made_atom}
use Rattle.model.proofs.Read.{clash, part_held}
use Rattle.model.proofs.Rows.{table_at}
use Rattle.theory.specs.Cells.{apps, Makes, class_at, On}
use Rattle.theory.specs.Marks.{Marks}
use Rattle.theory.proofs.Parts.{keys, look_made, held_look, inside_part}
use Rattle.theory.proofs.Bare.{rest_shown, reduced_built}
use Rattle.theory.proofs.Reduce.{lists_same}
use Rattle.reducing.specs.Given.{Given, Exact, Shown}
use Rattle.reducing.specs.Bare.{Idle, Bares, Kept, itself, part, Keeps}
use Rattle.reducing.specs.Order.{number_at, placed, Whole, Ordered}
use Rattle.reducing.specs.declared.Plan.{Plan}
use Rattle.reducing.specs.Plan.{up_to, marked, planned, Sized, ReducedFile, Laid}
use Rattle.reducing.proofs.PlanLaws.{length_up_to, get_d_up_to, marked_only, marked_all, marked_rising}

-- ---- cells and messages
placed_solid : (f : ℕ → ℕ) (k : Cell) → (k ≡ VA → ⊥) → placed f k ≡ VA → ⊥
placed_solid f (AT n) v e = clash (cc)
placed_solid f VA v e = v refl
placed_solid f (ONE g a) v e = clash (cc)
placed_solid f (TWO h l r) v e = clash (cc)

atom_one : (n : ℕ) → atom n ≡ atom 0 → n ≡ 0
atom_one n e = cc

-- A cell is idle exactly if its message is name 0 or composed of built messages.
module _ (K : Message → Type 0) (m : ℕ → Message) (D : ℕ → Type 0) (eq : (c : ℕ) → D c ↔ Built K (m c)) where
  idle_rest : (k : Cell) → (k ≡ VA → ⊥) → (Idle D k → ⊥) → Uncomposed K (look (atom 0) m k) × (look (atom 0) m k ≡ atom 0 → ⊥)
  idle_rest (AT n) s u = (λ a b h. absurd (made_atom h), λ e. u (Idle.own (ap AT (atom_one n e))))
  idle_rest VA s u = absurd (s refl)
  idle_rest (ONE (App f) a) s u = (
    λ x y h bx by. let d = (eq a).1 (subst (Built K) (made_one h Made.apps).0 bx) in u (Idle.made (Makes.ones apps) d d),
    λ e. clash (cc),
  )
  idle_rest (TWO Two.Pair l r) s u = (
    λ x y h bx by. u (Idle.made Makes.twos ((eq l).1 (subst (Built K) (made_one h Made.pairs).0 bx)) ((eq r).1 (subst (Built K) (made_one h Made.pairs).1 by))),
    λ e. clash (cc),
  )
  idle_rest (TWO Two.Seal l r) s u = (
    λ x y h bx by. u (Idle.made Makes.twos ((eq l).1 (subst (Built K) (made_one h Made.seals).0 bx)) ((eq r).1 (subst (Built K) (made_one h Made.seals).1 by))),
    λ e. clash (cc),
  )

  rest_idle : (k : Cell) → Uncomposed K (look (atom 0) m k) → (look (atom 0) m k ≡ atom 0 → ⊥) → Idle D k → ⊥
  rest_idle k u z (Idle.own e) = z (ap (look (atom 0) m) e)
  rest_idle k u z (Idle.made {a} {b} s x y) = u (m a) (m b) (look_made (atom 0) m s) ((eq a).0 x) ((eq b).0 y)

-- The cells whose messages are built, of a table without variables, are so marked.
module _ (T : Table) (m : ℕ → Message) (reads : Ground T m) (solid : (c : ℕ) → T c ≡ VA → ⊥) (K : Message → Type 0) (D : ℕ → Type 0) (eq : (c : ℕ) → D c ↔ Built K (m c))
    (known : (x : Message) → K x → (c : ℕ) × (x ≡ m c)) where
  marks_of : Marks T m K D
  marks_of = record {
    closes = record {
      free = λ c v. absurd (solid c v);
      zero = λ c e. (eq c).1 (subst (Built K) (sym (reads c ∙ ap (look (atom 0) m) e)) Built.own);
      makes = λ c a b s da db. (eq c).1 (subst (Built K) (sym (reads c)) (Built.makes (look_made (atom 0) m s) ((eq a).0 da) ((eq b).0 db)));
      opens = λ c k d s dc dk. (eq d).1 (Built.opens ((keys T (λ c. atom 0) m reads).sound c k d s) ((eq c).0 dc) ((eq k).0 dk));
    };
    knows = λ x h. (let (c, e) = known x h in (c, (eq c).1 (subst (Built K) e (Built.known h)), e));
    sound = λ c. (eq c).0;
    same = λ c d e h. (eq d).1 (subst (Built K) e ((eq c).0 h));
  }

  -- From what the reduced file lists he builds what he builds from all.
  pub rest_builds : ((c : ℕ) → D c ⊎ (D c → ⊥)) → (x : Message) → Built (Rest K) x ↔ Built K x
  rest_builds = reduced_built T m reads (keys T (λ c. atom 0) m reads) K D marks_of

-- ---- what is kept may be numbered
module _ (n : ℕ) (words rep built bare keep : List ℕ) (g : Given n words rep)
    (bs : Bares (table_in words) rep built n bare) (ks : Keeps (table_in words) rep bare n keep) where
  abbrev T : Table
  T = table_in words

  pub keeps_whole : Whole T rep n keep
  keeps_whole = record { below = ks.below; own = λ c o. own ((ks.exact c).0 o); parts = λ c d o p. (ks.exact (class_at rep d)).1 (part ((ks.exact c).0 o) p refl) }
    where
      own : {c : ℕ} → Kept T rep bare c → class_at rep c ≡ c
      own {c} (itself o) = ((bs.exact c).0 o).1.0
      own (part {d = d} k p e) = ap (class_at rep) e ∙ (g.classes.idem d ∙ sym e)

  -- ---- of messages
  module _ (m : ℕ → Message) (reads : Ground T m) (ex : Exact rep m) (K : Message → Type 0) (eq : (c : ℕ) → On built (class_at rep c) ↔ Built K (m c))
      (known : (x : Message) → K x → (c : ℕ) × (x ≡ m c)) where
    abbrev D : ℕ → Type 0
    D c = On built (class_at rep c)

    class_message : (c : ℕ) → m (class_at rep c) ≡ m c
    class_message c = (ex (class_at rep c) c).1 (g.classes.idem c)

    own_beyond : (c : ℕ) → n ≤ c → m c ≡ atom 0
    own_beyond c h = reads c ∙ ap (look (atom 0) m) (g.rows.beyond c h)

    bare_rest : (c : ℕ) → On bare c → Rest K (m c)
    bare_rest c o =
        let (own, b, u) = ((bs.exact c).0 o).1 in
        let (w, z) = idle_rest K m D eq (T c) (g.solid c) u in
        ((eq c).0 (subst (On built) (sym own) b), subst (Uncomposed K) (sym (reads c)) w, λ e. z (sym (reads c) ∙ e))

    rest_bare : (c : ℕ) → c < n → class_at rep c ≡ c → Rest K (m c) → On bare c
    rest_bare c lt own (b, w, z) =
        (bs.exact c).1 (lt, (own, subst (On built) own ((eq c).1 b), rest_idle K m D eq (T c) (subst (Uncomposed K) (reads c) w) (λ e. z (reads c ∙ e))))

    kept_rest : {c : ℕ} → Kept T rep bare c → (y : Message) × Rest K y × Inside (m c) y
    kept_rest {c} (itself o) = (m c, bare_rest c o, whole)
    kept_rest (part {c = c} {d = d} {e = e} k p q) =
        let (y, r, i) = kept_rest k in
        (y, r, subst (λ x. Inside x y) (sym (ap m q ∙ class_message d)) (inside_part i (subst (Held (m d)) (sym (reads c)) (part_held (atom 0) m p))))

    inside_kept : {x y : Message} → Inside x y → (b : ℕ) → Kept T rep bare b → m b ≡ y → (c : ℕ) × Kept T rep bare c × (m c ≡ x)
    inside_kept whole b k e = (b, k, e)
    inside_kept (deeper {y = y} h i) b k e =
        let (d, p, f) = held_look (atom 0) m (T b) (g.solid b) (subst (Held y) (sym e ∙ reads b) h) in
        inside_kept i (class_at rep d) (part k p refl) (class_message d ∙ f)

    marks : Marks T m K D
    marks = marks_of T m reads g.solid K D eq known

    rest_kept : (y : Message) → Rest K y → (b : ℕ) × Kept T rep bare b × (m b ≡ y)
    rest_kept y r =
        let (c, d, e) = rest_shown T m reads (keys T (λ c. atom 0) m reads) K D marks y r in
        let f : m (class_at rep c) ≡ y = class_message c ∙ sym e in
        elim (dec_lt c n) [
          | yes lt ↦ (
              let le = g.lowest c lt in
              (class_at rep c, itself (rest_bare (class_at rep c) (omega arith) (g.classes.idem c) (subst (Rest K) (sym f) r)), f))
          | no ge ↦ absurd (r.2 (e ∙ own_beyond c (omega arith)))
        ]

    listed : (x : Message) → ((c : ℕ) × On keep c × (m c ≡ x)) ↔ ((y : Message) × Rest K y × Inside x y)
    listed x = (
      λ (c, o, e). (let (y, r, i) = kept_rest ((ks.exact c).0 o) in (y, r, subst (λ x. Inside x y) e i)),
      λ (y, r, i). (
          let (b, k, e) = rest_kept y r in
          let (c, k', f) = inside_kept i b k e in
          (c, (ks.exact c).1 k', f)),
    )

    -- ---- the plan
    module _ (old new : List ℕ) (p : Plan) (O : Ordered words rep n keep old new p.cells) (L : Laid words rep old new bare p.cells p) where
      abbrev row : ℕ → Cell
      row = table_in p.table

      μ : ℕ → Message
      μ j = cond (ltb j p.cells) (m (get_or old j 0)) (atom 0)

      μ-in : (j : ℕ) → j < p.cells → μ j ≡ m (get_or old j 0)
      unfolding μ
      μ-in j h = ap (λ t. cond t (m (get_or old j 0)) (atom 0)) (lt-ltb j p.cells h)

      μ-out : (j : ℕ) → (j < p.cells → ⊥) → μ j ≡ atom 0
      unfolding μ
      μ-out j h = ap (λ t. cond t (m (get_or old j 0)) (atom 0)) (le-ltb j p.cells (omega arith))

      row_is : (j : ℕ) → j < p.cells → row j ≡ placed (number_at rep new) (T (get_or old j 0))
      row_is j h = (let l = O.few in let l' = g.rows.few in table_at p.table j (omega arith)) ∙ L.cells_are j h

      lists : Lists (table_of (planned p).cells) μ p.cells (λ x. (c : ℕ) × On keep c × (m c ≡ x))
      lists = O.lists m reads ex (table_of (planned p).cells) μ
          (λ j h. (get_d_up_to row p.cells j (AT 0) h ∙ row_is j h, μ-in j h))
          (λ j h. ((let s = length_up_to row p.cells in get_or-eq_default (up_to row p.cells) (AT 0) {n = j} (omega arith)), μ-out j h))

      names : (c : ℕ) → Memᴰ c (marked p.learnt p.cells) ↔ ((c < p.cells) × Rest K (μ c))
      names c = (
        λ h. (let (lt, o) = marked_only p.learnt p.cells c h in (lt, subst (Rest K) (sym (μ-in c lt)) (bare_rest (get_or old c 0) (sym (L.marks_are c lt) ∙ o)))),
        λ (lt, r). (
            let o = O.kept c lt in
            marked_all p.learnt p.cells c lt (L.marks_are c lt ∙ rest_bare (get_or old c 0) (ks.below (get_or old c 0) o) (keeps_whole.own (get_or old c 0) o) (subst (Rest K) (μ-in c lt) r))),
      )

      pub plan_reduces : ReducedFile K (planned p)
      plan_reduces = (
        μ,
        marked p.learnt p.cells,
        subst (λ k. Reduces K (table_of (planned p).cells) μ k (marked p.learnt p.cells)) (sym (length_up_to row p.cells)) (record {
          cells = lists_same {X = λ x. (c : ℕ) × On keep c × (m c ≡ x)} {Y = λ x. (y : Message) × Rest K y × Inside x y} listed lists;
          rises = marked_rising p.learnt p.cells;
          names = names;
        }),
        refl,
      )

  -- ---- what is laid out
  module _ (old new : List ℕ) (count : ℕ) (p : Plan) (O : Ordered words rep n keep old new count) (L : Laid words rep old new bare count p) where
    pub plan_sized : Sized p
    plan_sized =
        let e = L.cells in
        let h = O.few in
        let h' = g.rows.few in
        record {
          few = omega arith;
          solid = λ j l z. placed_solid (number_at rep new) (T (get_or old j 0)) (g.solid (get_or old j 0))
              (sym (L.cells_are j (omega arith)) ∙ (sym (table_at p.table j (omega arith)) ∙ z));
          counts = L.counts ∙ ap (λ i. length (marked p.learnt i)) (sym e);
        }

    pub plan_reduced : (m : ℕ → Message) (ev : Run) → Shown T rep built m ev → ReducedFile (Heard ev m) (planned p)
    plan_reduced m ev s =
        plan_reduces m s.reads s.exact (Heard ev m) s.marked (λ x (c, q, e, i). (c, i)) old new p
        (subst (λ k. Ordered words rep n keep old new k) (sym L.cells) O) (subst (λ k. Laid words rep old new bare k p) (sym L.cells) L)
