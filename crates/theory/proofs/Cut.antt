-- Where a cut goes through what is to be made, right values make a pair equal that was taken to be apart.
use mathlib.Core.Path.{◌≡◌, refl, sym, ◌∙◌, ap, subst}
use mathlib.Core.Logic.{◌⊎◌, inl, inr}
use mathlib.Core.Option.{some}
use Prim.Native.Nat.{ℕ, ◌<◌}
use Rattle.model.specs.Message.{App, Message}
use Rattle.model.specs.Case.{Cell, AT, VA, ONE, TWO, MK, LN, Table, Run, Reads, Part, in_arg, in_left, in_right, Makable, WellFormed}
use Rattle.theory.specs.Cells.{Composes, Makes, Opening, Formed}
use Rattle.theory.specs.Classes.{Likes, Sat, Ranked}
use Rattle.theory.specs.Level.{Kin, Occ}
use Rattle.theory.specs.Search.{State}
use Rattle.theory.specs.Cut.{Place, at_arg, at_left, at_right, Enough, Mays, Cut, Lit, Foreign, CutPlan, Tried, Sets, Bares, RowPlan, Granted, Line, Wanting}
use Rattle.model.proofs.Steps.{size}
use Rattle.model.proofs.Read.{clash}
use Rattle.theory.proofs.Parts.{makes?, makes_one, makes_parts}
use Rattle.theory.proofs.Classes.{part_solid, rank_strong, reads_ranked}
use Rattle.theory.proofs.Level.{class_reads, class_same, occ_same, learnt_made}
use Rattle.theory.proofs.Heard.{X, Avail, composed_part, part_X, down_X, all_X}
use Rattle.theory.proofs.Sweep.{opening_rep}

-- Parts of two cells that are alike by their messages stand at one place.
part_place : {m : ℕ → Message} {k k' : Cell} {x : ℕ} → Likes m m k k' → Part k x → (x' : ℕ) × Part k' x' × Place k k' x x' × (m x ≡ m x')
part_place Likes.atoms h = elim h [ ]
part_place (Likes.ones i) in_arg = (_, in_arg, at_arg, i)
part_place (Likes.twos i j) in_left = (_, in_left, at_left, i)
part_place (Likes.twos i j) in_right = (_, in_right, at_right, j)

-- A name is made of nothing, and is of no kind that has parts.
name_makes : {k : Cell} {n i j : ℕ} → k ≡ AT n → Makes k i j → ⊥
name_makes e (Makes.ones s) = clash (cc)
name_makes e Makes.twos = clash (cc)

name_kin : {k k' : Cell} {n : ℕ} → k ≡ AT n → Kin k k' → ⊥
name_kin e Kin.ones = clash (cc)
name_kin e (Kin.twos s) = clash (cc)

module _ (T : Table) (rep : ℕ → ℕ) (ev : Run) (p : ℕ) (R : ℕ → ℕ → Type 0) (O H W : ℕ → Type 0) (lit : Lit T rep ev p R O H W) (ok : Formed T)
    (m : ℕ → Message) (mr : Reads T m m) (ms : Sat rep m) (names : (c d n : ℕ) → T (rep c) ≡ AT n → T (rep d) ≡ AT n → rep c ≡ rep d)
    (apart : (c d : ℕ) → Kin (T (rep c)) (T (rep d)) → (rep c ≡ rep d → ⊥) → R c d → m c ≡ m d → ⊥) where
  -- What is composed of the messages of cells that may come to light.
  abbrev Z : ℕ → Message → Type 0
  Z = X T rep ev O m

  -- The cells with a cut.
  abbrev Cuts : ℕ → Type 0
  Cuts = Cut T rep O R

  -- They do not come to light. So what a pair that may come to light gives by itself may come to light.
  cut_dark : {c : ℕ} → Cuts c → O c → ⊥
  cut_dark (Cut.name e n u) h = u h
  cut_dark (Cut.part u q f k) h = u h

  alone : (c d : ℕ) → Opening (λ c. T (rep c)) c c d → O c → O d
  alone c d o h = elim (lit.opens c c d o h) [ inl y ↦ y | inr k ↦ absurd (cut_dark k h) ]

  -- A cell in which a free class of O stands is in H.
  occ_holds : {y c : ℕ} → T (rep y) ≡ VA → O y → Occ T rep y c → H c
  occ_holds v h (Occ.here e) = lit.here _ (ap T e ∙ v) (lit.same _ _ (sym e) h)
  occ_holds v h (Occ.down q o) = lit.up _ _ q (occ_holds v h o)

  -- At a position q, with the free classes heard before q in Z: no cell with a cut is in Z,
  module _ (q : ℕ) (avail : Avail T rep ev O m q) where
    cut_no_Z : {c : ℕ} → Cuts c → Z q (m c) → ⊥
    cut_no_Z {c} (Cut.name {n = n} e n0 u) z = elim (down_X T rep ev O m mr ms names alone avail z c refl (λ v. clash (cc))) [
      | inl (inl i) ↦ n0 (cc)
      | inl (inr (i, j, k, w, w')) ↦ name_makes e k
      | inr (g, h, b, inl one) ↦ u (lit.same g c (sym one) h)
      | inr (g, h, b, inr (two, kin, alike, i)) ↦ name_kin e kin
    ]
    cut_no_Z {c} (Cut.part {x = x} u h f k) z = elim (down_X T rep ev O m mr ms names alone avail z c refl (part_solid h)) [
      | inl both ↦ cut_no_Z k (composed_part T rep ev O m both h)
      | inr (g, s, b, inl one) ↦ u (lit.same g c (sym one) s)
      | inr (g, s, b, inr (two, kin, alike, i)) ↦ (let (x', h', place, j) = part_place alike h in elim (f g x' s two place) [
        | inl s' ↦ cut_no_Z k (subst (Z q) (sym j) (part_X T rep ev O m avail b h' s'))
        | inr r ↦ apart c g kin two r i
      ])
    ]

    -- and a free class y in what is to be made at q is in Z.
    over_Z : (y : ℕ) → O y → T (rep y) ≡ VA → {c : ℕ} → W c → Z q (m c) → Occ T rep y c → Z q (m y)
    over_Z y hy v w z (Occ.here j) = subst (Z q) (class_same T rep m mr ms j) z
    over_Z y hy v {c} w z (Occ.down {d = d} u o) =
        let hd = occ_holds v hy o in
        let wd = lit.parts c d w u hd in
        elim (down_X T rep ev O m mr ms names alone avail z c refl (part_solid u)) [
          | inl both ↦ over_Z y hy v wd (composed_part T rep ev O m both u) o
          | inr (e, h, b, inl one) ↦ avail y hy v (b y v (occ_same T rep one (Occ.down u o)))
          | inr (e, h, b, inr (two, kin, alike, i)) ↦ (let (d', u', place, j) = part_place alike u in elim (lit.leak c e d d' w hd h two place) [
            | inl h' ↦ over_Z y hy v wd (subst (Z q) (sym j) (part_X T rep ev O m avail b u' h')) o
            | inr r ↦ absurd (apart c e kin two r i)
          ])
        ]

  -- The theorem: right values that leave the pairs of R apart do not make a cell with a cut at p.
  pub cut_unmade : Makable ev m → ((y : ℕ) → T (rep y) ≡ VA → (l c : ℕ) → ev l ≡ some (LN c) → Occ T rep y c → (q : ℕ) × (t : ℕ) × (q < l) × (ev q ≡ some (MK t)) × Occ T rep y t) →
      (t : ℕ) → ev p ≡ some (MK t) → Cut T rep O R t → ⊥
  cut_unmade right made t e cut =
      let (avail, all) = all_X T rep ev O m p ok mr ms lit.learnt opens right made bind in
      cut_no_Z p avail cut (all t e)
    where
      opens : (q : ℕ) → Avail T rep ev O m q → (c k d : ℕ) → Opening (λ c. T (rep c)) c k d → O c → Z q (m k) → O d
      opens q avail c k d o h z = elim (lit.opens c k d o h) [ inl y ↦ y | inr x ↦ absurd (cut_no_Z q avail x z) ]

      bind : (q : ℕ) → q < p → Avail T rep ev O m q → (y t : ℕ) → O y → T (rep y) ≡ VA → ev q ≡ some (MK t) → Occ T rep y t → Z q (m t) → Z q (m y)
      bind q lt avail y t h v j o z = over_Z q avail y h v (lit.due q t lt j (occ_holds v h o)) z o

-- ---- on the cells that stand for their class

module _ (T : Table) (ev : Run) (rep : ℕ → ℕ) (p : ℕ) (pair : ℕ → ℕ → Type 0) (S H W K : ℕ → Type 0) (plan : CutPlan T ev rep p pair S H W K)
    (idem : (c : ℕ) → rep (rep c) ≡ rep c) (rank : ℕ → ℕ) (lower : Ranked (λ c. T (rep c)) rank) where
  -- The sets on all cells.
  abbrev Of : (ℕ → Type 0) → ℕ → Type 0
  Of A c = A (rep c)

  abbrev Pairs : ℕ → ℕ → Type 0
  Pairs c d = pair (rep c) (rep d)

  -- Through each cell of K goes a cut, as the classes do not come round.
  plan_cut : (c : ℕ) → Of K c → Cut T rep (Of S) Pairs c
  plan_cut = rank_strong rank (λ c. Of K c → Cut T rep (Of S) Pairs c) (λ c ih k. elim (plan.down (rep c) (idem c) k) [
    | inl (n, e, n0) ↦ Cut.name e n0 (plan.dark (rep c) (idem c) k)
    | inr (x, h, kx, f) ↦ Cut.part (plan.dark (rep c) (idem c) k) h (λ d x' s two place. f (rep d) x' (idem d) s place) (ih x (lower c x h) kx)
  ])

  -- So the sets of the plan, on all cells, are as the theorem asks.
  plan_lit : Lit T rep ev p Pairs (Of S) (Of H) (Of W)
  plan_lit = record {
    learnt = plan.learnt;
    same = λ c d e s. subst S e s;
    opens = λ c k d o s. (let (k', o', e) = opening_rep T rep idem o in elim (plan.opens (rep c) k' d (idem c) o' s) [
      | inl s' ↦ inl s'
      | inr x ↦ inr (plan_cut k (subst K (sym e) x))
    ]);
    leak = λ c d x x' w h s two place. plan.leak (rep c) (rep d) x x' (idem c) (idem d) w h place s;
    here = λ c e s. plan.here (rep c) (idem c) e s;
    up = λ c d h g. plan.up (rep c) d (idem c) h g;
    due = plan.due;
    parts = λ c d w h g. plan.parts (rep c) d (idem c) w h g;
  }

-- No right values satisfy the classes, if none make a pair of want and bare equal.
cut_pairs : (T : Table) (ev : Run) (rep : ℕ → ℕ) (p : ℕ) (may : ℕ → ℕ → Type 0) (S H W K want bare : ℕ → Type 0) → Formed T → WellFormed T ev → State T rep →
    Mays T ev rep may → CutPlan T ev rep p (Tried may want bare) S H W K → Enough T ev rep want bare
cut_pairs T ev rep p may S H W K want bare ok wf st mays plan tried m mr right ms =
    let lower = reads_ranked (λ c. T (rep c)) m m (class_reads T rep m mr ms) in
    cut_unmade T rep ev p (λ c d. Tried may want bare (rep c) (rep d)) (λ c. S (rep c)) (λ c. H (rep c)) (λ c. W (rep c))
    (plan_lit T ev rep p (Tried may want bare) S H W K plan st.idem (λ c. size (m c)) lower) ok m mr ms
    (λ c d n e i. cc (st.idem c, st.idem d, st.names (rep c) (rep d) n e i))
    (λ c d k two r e. mays (rep c) (rep d) (st.idem c) (st.idem d) k two
    (λ x. let (w, b) = r x in tried (rep c) (rep d) (st.idem c) (st.idem d) w b k two m mr right ms (sym (ms c) ∙ (e ∙ ms d))) m mr right ms (sym (ms c) ∙ (e ∙ ms d)))
    right.makes (learnt_made T rep st.closed ok.lower wf) plan.cell plan.at
    (plan_cut T ev rep p (Tried may want bare) S H W K plan st.idem (λ c. size (m c)) lower plan.cell plan.goal)

-- ---- as loops compute it

-- The part of the second cell.
place_part : {k k' : Cell} {x x' : ℕ} → Place k k' x x' → Part k' x'
place_part Place.at_arg = in_arg
place_part Place.at_left = in_left
place_part Place.at_right = in_right

module _ (T : Table) (rep : ℕ → ℕ) (ev : Run) (p : ℕ) (S B N H W : ℕ → Type 0) (w : Sets T rep ev p S B N H W) where
  -- What a cell with parts is made of is not both built, if the cell is not.
  made_down : (c a b : ℕ) → rep c ≡ c → (B c → ⊥) → Makes (T c) a b → (x : ℕ) × Part (T c) x × (B (rep x) → ⊥)
  made_down c a b i u k = elim (w.marked (rep a)) [
    | inr no-a ↦ (a, (makes_parts k).0, no-a)
    | inl yes-a ↦ elim (w.marked (rep b)) [
      | inr no-b ↦ (b, (makes_parts k).1, no-b)
      | inl yes-b ↦ absurd (u (w.marks.makes c a b i k yes-a yes-b))
    ]
  ]

  -- So a cell that is not built is a foreign name, or has a part that is not built: the unbuilt cells go down to names.
  unbuilt_down : (c : ℕ) → rep c ≡ c → (B c → ⊥) → Foreign (T c) ⊎ ((x : ℕ) × Part (T c) x × (B (rep x) → ⊥))
  unbuilt_down c i u = go (T c) refl
    where
      go : (k : Cell) → T c ≡ k → Foreign (T c) ⊎ ((x : ℕ) × Part (T c) x × (B (rep x) → ⊥))
      go (AT n) e = inl (n, e, λ z. u (w.marks.zero c i (e ∙ ap AT z)))
      go VA e = absurd (u (w.marks.free c i e))
      go (ONE (App f) a) e = inr (made_down c a a i u (subst (λ k. Makes k a a) (sym e) (Makes.ones Composes.apps)))
      go (TWO h l r) e = inr (made_down c l r i u (subst (λ k. Makes k l r) (sym e) Makes.twos))

  -- Keys that are not built go down to names in N,
  needs_down : (c : ℕ) → rep c ≡ c → N c → (B c → ⊥) → Foreign (T c) ⊎ ((x : ℕ) × Part (T c) x × N (rep x) × (B (rep x) → ⊥))
  needs_down c i h u = elim (unbuilt_down c i u) [ inl name ↦ inl name | inr (x, q, ux) ↦ inr (x, q, w.lower c x i h q ux, ux) ]

  -- and so does a line.
  line_down : (L : ℕ → Type 0) → Line T rep B L → (c : ℕ) → rep c ≡ c → L c → Foreign (T c) ⊎ ((x : ℕ) × Part (T c) x × L (rep x))
  line_down L l c i h = elim (unbuilt_down c i (l.unbuilt c i h)) [ inl name ↦ inl name | inr (x, q, u) ↦ inr (l.part c x i h q) ]

  -- A seen cell has all its parts seen, or is bare.
  seen_or_bare : (bare : ℕ → Type 0) → Bares T rep S B bare → (c x : ℕ) → rep c ≡ c → S c → Part (T c) x → S (rep x) ⊎ bare c
  seen_or_bare bare bares c x i s h = elim (makes? (T c)) [
    | inr none ↦ inr (bares c x i h s (λ a b k _ _. none a b k))
    | inl (a, b, k) ↦ elim (w.marked (rep a)) [
      | inr no-a ↦ inr (bares c x i h s (λ a' b' k' g g'. no-a (subst (λ a. B (rep a)) (makes_one k' k).0 g)))
      | inl yes-a ↦ elim (w.marked (rep b)) [
        | inr no-b ↦ inr (bares c x i h s (λ a' b' k' g g'. no-b (subst (λ b. B (rep b)) (makes_one k' k).1 g')))
        | inl yes-b ↦ inl (w.marks.parts c a b x i k h s yes-a yes-b)
      ]
    ]
  ]

module _ (T : Table) (rep : ℕ → ℕ) (ev : Run) (p : ℕ) (may : ℕ → ℕ → Type 0) (S B N H W K want bare : ℕ → Type 0) (r : RowPlan T rep ev p may S B N H W K want bare) where
  -- The part of a seen cell that stands where a way goes on is seen, or the pair is to be tried.
  seen_part : (d x' : ℕ) → rep d ≡ d → S d → Part (T d) x' → S (rep x') ⊎ bare d
  seen_part = seen_or_bare T rep ev p S B N H W r.sets bare r.bares

  row_leak : (c d x x' : ℕ) → rep c ≡ c → rep d ≡ d → W c → H (rep x) → Place (T c) (T d) x x' → S d → S (rep x') ⊎ Tried may want bare c d
  row_leak c d x x' i j w h place s = elim (seen_part d x' j s (place_part place)) [
    | inl s' ↦ inl s'
    | inr b ↦ elim (r.leak c d x x' i j w h place s) [ inl s' ↦ inl s' | inr f ↦ inr (λ e. (f e, b)) ]
  ]

  -- What the loops establish is a plan.
  row_plan : (idem : (c : ℕ) → rep (rep c) ≡ rep c) (t : ℕ) → ev p ≡ some (MK t) → K (rep t) → CutPlan T ev rep p (Tried may want bare) S H W K
  row_plan idem t e goal = record {
    cell = t;
    at = e;
    goal = goal;
    learnt = r.sets.marks.learnt;
    opens = λ c k d i o s. elim (r.sets.marked (rep k)) [
      | inl b ↦ inl (r.sets.marks.opens c k d i o s b)
      | inr u ↦ inr (r.needs (rep k) (idem k) (r.sets.keys c k d i o s u) u)
    ];
    dark = r.dark;
    down = λ c i k. elim (r.down c i k) [
      | inl name ↦ inl name
      | inr (x, q, kx) ↦ inr (
        x,
        q,
        kx,
        λ d x' j s place. elim (seen_part d x' j s (place_part place)) [
          | inl s' ↦ inl s'
          | inr b ↦ inr (λ e. (r.pairs c d i j k s b e, b))
        ],
      )
    ];
    leak = row_leak;
    here = r.sets.here;
    up = r.sets.up;
    due = r.sets.due;
    parts = r.sets.parts;
  }

rows_enough : (T : Table) (ev : Run) (rep : ℕ → ℕ) (p : ℕ) (may : ℕ → ℕ → Type 0) (S B N H W K want bare : ℕ → Type 0) → Formed T → WellFormed T ev → State T rep →
    Mays T ev rep may → RowPlan T rep ev p may S B N H W K want bare → (t : ℕ) → ev p ≡ some (MK t) → K (rep t) → Enough T ev rep want bare
rows_enough T ev rep p may S B N H W K want bare ok wf st mays r t e goal =
    cut_pairs T ev rep p may S H W K want bare ok wf st mays (row_plan T rep ev p may S B N H W K want bare r st.idem t e goal)

-- ---- the two plans of a step

-- The rule of the keys: those that are not built may be equal to no seen cell, so they have cuts in which nothing is wanted; and one way down from what is to be made is wanted.
pub granted_enough : (T : Table) (ev : Run) (rep : ℕ → ℕ) (p : ℕ) (may : ℕ → ℕ → Type 0) (S B N H W L bare : ℕ → Type 0) → Formed T → WellFormed T ev → State T rep →
    Mays T ev rep may → Granted T rep ev p may S B N H W → Line T rep B L → Bares T rep S B bare → (t : ℕ) → ev p ≡ some (MK t) → L (rep t) → Enough T ev rep L bare
granted_enough T ev rep p may S B N H W L bare ok wf st mays g l bares t e goal =
    rows_enough T ev rep p may S B N H W (λ c. L c ⊎ (N c × (B c → ⊥))) L bare ok wf st mays rows t e (inl goal)
  where
    down : (c : ℕ) → rep c ≡ c → L c ⊎ (N c × (B c → ⊥)) → Foreign (T c) ⊎ ((x : ℕ) × Part (T c) x × (L (rep x) ⊎ (N (rep x) × (B (rep x) → ⊥))))
    down c i (inl h) = elim (line_down T rep ev p S B N H W g.sets L l c i h) [ inl name ↦ inl name | inr (x, q, hx) ↦ inr (x, q, inl hx) ]
    down c i (inr (h, u)) = elim (needs_down T rep ev p S B N H W g.sets c i h u) [ inl name ↦ inl name | inr (x, q, hx, ux) ↦ inr (x, q, inr (hx, ux)) ]

    rows : RowPlan T rep ev p may S B N H W (λ c. L c ⊎ (N c × (B c → ⊥))) L bare
    rows = record {
      sets = g.sets;
      bares = bares;
      needs = λ c i h u. inr (h, u);
      dark = λ c i k s. elim k [ inl h ↦ l.unbuilt c i h (g.sets.marks.had c i s) | inr (h, u) ↦ u (g.sets.marks.had c i s) ];
      down = down;
      pairs = λ c d i j k s b m. elim k [ inl h ↦ h | inr (h, u) ↦ absurd (u (g.grants c d i j h s m)) ];
      leak = λ c d x x' i j o h place s. elim (g.leak c d x x' i j o h place s) [ inl s' ↦ inl s' | inr never ↦ inr (λ m. absurd (never m)) ];
    }

-- All that may help is wanted.
pub wanting_enough : (T : Table) (ev : Run) (rep : ℕ → ℕ) (p : ℕ) (S B N H W want bare : ℕ → Type 0) → Formed T → WellFormed T ev → State T rep →
    Wanting T rep ev p S B N H W want → Bares T rep S B bare → (t : ℕ) → ev p ≡ some (MK t) → N (rep t) → (B (rep t) → ⊥) → Enough T ev rep want bare
wanting_enough T ev rep p S B N H W want bare ok wf st v bares t e goal lacks =
    rows_enough T ev rep p (λ c d. Unit) S B N H W (λ c. N c × (B c → ⊥)) want bare ok wf st (λ c d i j k two never. absurd (never tt)) (record {
      sets = v.sets;
      bares = bares;
      needs = λ c i h u. (h, u);
      dark = λ c i (h, u) s. u (v.sets.marks.had c i s);
      down = λ c i (h, u). elim (needs_down T rep ev p S B N H W v.sets c i h u) [ inl name ↦ inl name | inr (x, q, hx, ux) ↦ inr (x, q, (hx, ux)) ];
      pairs = λ c d i j (h, u) s b m. v.needs c i h;
      leak = λ c d x x' i j o h place s. inr (λ m. v.overs c i o);
    }) t e (goal, lacks)
