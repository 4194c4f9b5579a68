-- The marks as the run goes on, what is tried at a step, and the plan of a step.
use mathlib.Core.Path.{◌≡◌, refl, sym, ◌∙◌, ap, subst}
use mathlib.Core.Bool.{true≢false}
use mathlib.Core.List.{List}
use mathlib.Core.Option.{some}
use Prim.Native.Nat.{ℕ, ◌+◌, ◌<◌}
use native.Mathlib.Omega.{arith}
use native.Mathlib.Decide.{dec_lt}
use lib.ListN.{get_or}
use Rattle.std.specs.Prelude.{Option, Some, None, IfSome}
use Rattle.model.specs.Case.{MK, LN, Table, Run, Part, Learnt}
use Rattle.model.specs.Stored.{table_in, run_in, event_in, aim}
use Rattle.model.proofs.Read.{clash}
use Rattle.model.proofs.Stored.{run_at, run_below}
use Rattle.theory.specs.Cells.{TableWords, Makes, class_at, On}
use Rattle.theory.specs.Level.{Side, Mark, seen, built}
use Rattle.theory.specs.Sweep.{Swept}
use Rattle.theory.proofs.Cut.{granted_enough, wanting_enough}
use Rattle.theory.proofs.Rows.{rows_formed}
use Rattle.theory.proofs.Sweep.{On as sideOn, opening_class, mark_later, mark_least}
use Rattle.classes.specs.Kept.{Kept, Solved}
use Rattle.classes.proofs.SolvedLaws.{solved_state}
use Rattle.knowledge.specs.Knowledge.{ClassRow, MarkRow, Starts}
use Rattle.knowledge.specs.Sweeps.{OwnMarks}
use Rattle.knowledge.specs.declared.Marks.{Marks}
use Rattle.knowledge.proofs.ClassRows.{kept_row}
use Rattle.knowledge.proofs.Grow.{none_on, none_marked}
use Rattle.knowledge.proofs.Start.{starts_learn}
use Rattle.wants.specs.Starts.{BareTo}
use Rattle.wants.proofs.SetLaws.{rows_sets}
use Rattle.wants.proofs.StartLaws.{bare_rows}
use Rattle.granting.specs.Meets.{May}
use Rattle.granting.specs.Grants.{Still, Grants, GrantRows}
use Rattle.granting.specs.declared.grants.Grant.{Grant}
use Rattle.granting.specs.Line.{Lacking, LineRow}
use Rattle.granting.proofs.GrantLaws.{may_mays, still_granted, heard_none, heard_more, heard_make, heard_learn}
use Rattle.solving.specs.declared.plan.Trial.{Trial}
use Rattle.solving.specs.declared.plan.Choice.{Choice}
use Rattle.solving.specs.declared.plan.Stage.{Stage}
use Rattle.solving.specs.Plans.{Exact, GrantedAt, Chosen, Tries, Better, Planned, Plans, Reopened, Costing, LineChance, StageRows, Staged, fresh_stage, FirstStage, MadeStage, HeardStage}

-- ---- the marks as the run goes on

module _ {T : Table} {n : ℕ} {rep : List ℕ} (w : ClassRow n rep) {ev : Run} {p : ℕ} {seens builts : List ℕ} (x : Exact T rep ev p seens builts) where
  at_seen : (c : ℕ) → class_at rep c ≡ c → On seens c → Mark T (class_at rep) ev p seen c
  at_seen c e o = (x.seen c).0 (subst (On seens) (sym e) o)

  pub exact_swept : Swept T (class_at rep) ev p (On seens) (On builts)
  exact_swept = record {
    learnt = λ c h. (x.seen c).1 (Mark.learnt h);
    opens = λ c k d e o s b. (x.seen d).1 (Mark.opens (opening_class T (class_at rep) w.idem e o) (at_seen c e s) ((x.built k).0 b));
    parts = λ c a b d e m q s g g'. (x.seen d).1
        (Mark.parts (subst (λ r. Makes (T r) a b) (sym e) m) (subst (λ r. Part (T r) d) (sym e) q) (at_seen c e s) ((x.built a).0 g) ((x.built b).0 g'));
    free = λ c e v. subst (On builts) e ((x.built c).1 (Mark.free (ap T e ∙ v)));
    zero = λ c e v. subst (On builts) e ((x.built c).1 (Mark.zero (ap T e ∙ v)));
    had = λ c e s. subst (On builts) e ((x.built c).1 (Mark.had (at_seen c e s)));
    makes = λ c a b e m g g'. subst (On builts) e ((x.built c).1 (Mark.makes (subst (λ r. Makes (T r) a b) (sym e) m) ((x.built a).0 g) ((x.built b).0 g')));
  }

  -- One may start from the marks of what is seen.
  exact_starts : Starts T rep ev p seens
  exact_starts = record { low = λ c h. (x.seen c).1 (Mark.learnt h); high = λ c o. at_seen c (x.seen_marked.stand c o) o }

  -- Where nothing is learnt at p they are the marks at the next position.
  module _ (none : (c : ℕ) → ev p ≡ some (LN c) → ⊥) where
    learnt_same : (c : ℕ) → Learnt ev (p + 1) c → Learnt ev p c
    learnt_same c (q, lt, e) = elim (dec_lt q p) [
      | yes l ↦ (q, l, e)
      | no g ↦ (let z : q ≡ p = omega arith in absurd (none c (subst (λ k. ev k ≡ some (LN c)) z e)))
    ]

    swept_same : Swept T (class_at rep) ev (p + 1) (On seens) (On builts)
    swept_same =
        let v = exact_swept in
        record {
          learnt = λ c h. v.learnt c (learnt_same c h);
          opens = v.opens;
          parts = v.parts;
          free = v.free;
          zero = v.zero;
          had = v.had;
          makes = v.makes;
        }

    least : {s : Side} {c : ℕ} → Mark T (class_at rep) ev (p + 1) s c → sideOn (On seens) (On builts) s (class_at rep c)
    least = mark_least T (class_at rep) ev (p + 1) w.idem (On seens) (On builts) swept_same

    exact_same : Exact T rep ev (p + 1) seens builts
    exact_same = record {
      seen = λ c. (λ o. mark_later T (class_at rep) ev p w.idem (omega arith) ((x.seen c).0 o), least);
      built = λ c. (λ o. mark_later T (class_at rep) ev p w.idem (omega arith) ((x.built c).0 o), least);
      seen_marked = x.seen_marked;
      built_marked = x.built_marked;
    }

-- What is to be made stands for its class, and is a cell of the table.
pub lacking_goal : {n : ℕ} {T : Table} {rep builts : List ℕ} {t : ℕ} → Kept n T rep → (x : ℕ) → t ≡ class_at rep x → x < n → (On builts t → ⊥) → Lacking n rep builts t
lacking_goal {n} {rep = rep} k x e h u = record {
  inside = subst (λ z. z < n) (sym e) (k.inside x h);
  stands = subst (λ z. class_at rep z ≡ z) (sym e) (k.reps.idem x);
  unbuilt = u;
}

-- An MK is of the cell of its word.
aim_make : (count p : ℕ) (run : List ℕ) {x y : ℕ} → y ≡ aim (event_in (get_or run p 0)) → run_in count run p ≡ some (MK x) → run_in count run p ≡ some (MK y)
aim_make count p run {x} told at =
    let e = run_at count run p (run_below count run p at) in
    let z : event_in (get_or run p 0) ≡ MK x = cc in
    at ∙ ap (λ (i : ℕ). some (MK i)) (sym (told ∙ ap aim z))

-- ---- what is tried at a position where what is to be made is not built

-- A way down from the class of what is to be made.
pub chosen_line : {T : Table} {n p t : ℕ} {rep run : List ℕ} {o : Marks} {g g' : Grant} {x : Trial} → t ≡ class_at rep (aim (event_in (get_or run p 0))) → LineChance T rep g t x g' →
    BareTo T rep g.seen g.built g.bare n → Chosen T n rep o g run p x
chosen_line {T} {n} {rep = rep} {g = g} {x = x} e c b = Chosen.line (subst (λ (z : ℕ). LineRow T rep g.built z x.want) e c.line)
    (subst (λ (l : List ℕ). BareTo T rep g.seen g.built l n) (sym c.bare) b)

module _ {n : ℕ} {words rep : List ℕ} (w : TableWords n words) (s : Solved n (table_in words) rep) (count p : ℕ) (run : List ℕ)
    {y : ℕ} (told : y ≡ aim (event_in (get_or run p 0))) (at : run_in count run p ≡ some (MK y)) where
  abbrev T : Table
  T = table_in words

  abbrev ev : Run
  ev = run_in count run

  row : ClassRow n rep
  row = kept_row w s.kept

  chosen_tries : {o : Marks} {g : Grant} → Exact T rep ev p o.seen o.built → (On o.built (class_at rep y) → ⊥) → GrantedAt T rep ev p g.seen g.built → {x : Trial} →
      Chosen T n rep o g run p x → Tries T ev rep x.want x.bare
  chosen_tries {o} {g} e lacks h {x} (Chosen.line l b) wf =
      granted_enough T ev (class_at rep) p (May T rep) (On g.seen) (On g.built) (On h.need) (On h.held) (On h.over) (On x.want) (On x.bare)
      (rows_formed w) wf (solved_state n T rep s) (may_mays T rep ev) h.granted (record { unbuilt = λ c i u. l.unbuilt c u; part = λ c d i u q. l.part c d u q })
      (bare_rows w row h.granted.sets.marks b) y at (subst (λ (z : ℕ). On x.want (class_at rep z)) (sym told) l.goal)
  chosen_tries {o} {g} e lacks h {x} (Chosen.all v b) wf =
      wanting_enough T ev (class_at rep) p (On o.seen) (On o.built) (On v.need) (On v.held) (On v.over) (On x.want) (On x.bare)
      (rows_formed w) wf (solved_state n T rep s)
      (record { sets = rows_sets w row count p (exact_swept row e) v.needs v.holds v.tops; needs = λ c i u. v.left c u; overs = v.right })
      (bare_rows w row (exact_swept row e) b) y at (subst (λ (z : ℕ). On v.need (class_at rep z)) (sym told) v.goal) lacks

-- ---- plans

module _ (T : Table) (rep : List ℕ) (ev : Run) where
  planned_none : (pl : Option Choice) → pl ≡ None → Planned T ev rep 0 pl
  planned_none None e = record { ready = λ q t h. absurd (omega arith); tries = tt }
  planned_none (Some x) e = clash (cc)

  module _ (p : ℕ) where
    -- A position where nothing is to be made.
    planned_learn : (x : ℕ) → ev p ≡ some (LN x) → (best : Option Choice) → Planned T ev rep p best → Planned T ev rep (p + 1) best
    planned_learn x at (Some c) w = record { ready = tt; tries = w.tries }
    planned_learn x at None w = record {
      ready = λ q t h i. elim (dec_lt q p) [
        | yes l ↦ w.ready q t l i
        | no g ↦ (let z : q ≡ p = omega arith in clash (cc))
      ];
      tries = tt;
    }

    -- A position where what is to be made is built.
    planned_built : (t : ℕ) → ev p ≡ some (MK t) → Mark T (class_at rep) ev p built t → (best : Option Choice) → Planned T ev rep p best → Planned T ev rep (p + 1) best
    planned_built t at k (Some c) w = record { ready = tt; tries = w.tries }
    planned_built t at k None w = record {
      ready = λ q s h i. elim (dec_lt q p) [
        | yes l ↦ w.ready q s l i
        | no g ↦ (
            let z : q ≡ p = omega arith in
            let y : s ≡ t = cc in
            subst (λ j. Mark T (class_at rep) ev j built s) (sym z) (subst (λ j. Mark T (class_at rep) ev p built j) (sym y) k))
      ];
      tries = tt;
    }

    -- A position where it is not.
    planned_tries : {best : Option Choice} → Planned T ev rep p best → {x : Trial} → Tries T ev rep x.want x.bare → {r : Choice} → Better best x r → Planned T ev rep (p + 1) (Some r)
    planned_tries w t {r} (Better.old e) = record { ready = tt; tries = (subst (Planned T ev rep p) e w).tries }
    planned_tries w t {r} (Better.new e) = record { ready = tt; tries = subst (λ y. Tries T ev rep y.want y.bare) (sym e) t }

-- A plan that is taken before the last position.
pub planned_enough : {T : Table} {rep : List ℕ} {event : Run} {p : ℕ} (pl : Option Choice) (x : Choice) → pl ≡ Some x → Planned T event rep p pl → Plans T event rep pl
planned_enough None x e w = clash (cc)
planned_enough (Some y) x e w = record { ready = tt; tries = w.tries }

-- ---- stages

module _ {n : ℕ} {words rep : List ℕ} (w : TableWords n words) (s : Solved n (table_in words) rep) where
  abbrev T' : Table
  T' = table_in words

  row' : ClassRow n rep
  row' = kept_row w s.kept

  -- Before the first event.
  pub staged_first : (ev : Run) {own : List ℕ} {st : Stage} → FirstStage own st → OwnMarks n rep own → Staged T' n ev rep 0 st
  staged_first ev {own} {st} f o = record {
    starts = record { low = λ c (q, lt, i). absurd (omega arith); high = λ c z. absurd (none_on c (subst (λ (s : List ℕ). On s c) f.seen z)) };
    exact = subst (λ b. IfSome b (Exact T' rep ev 0 st.seen)) (sym f.built) tt;
    heard = heard_none rep ev st.grant.seen;
    zero = own;
    own = o;
    kept = λ c z. subst (λ (s : List ℕ). On s c) (sym f.had) z;
    planned = planned_none T' rep ev st.best f.ready;
  }

  module _ (count p : ℕ) (run : List ℕ) {y z : ℕ} (told : y ≡ aim (event_in (get_or run p 0))) (make : run_in count run p ≡ some (MK z)) {st : Stage}
      (v : Staged T' n (run_in count run) rep p st) {o : Marks} (x : Reopened T' rep st.seen st.built o) where
    abbrev ev' : Run
    ev' = run_in count run

    at : ev' p ≡ some (MK y)
    at = aim_make count p run told make

    -- The marks at p, and at the next position.
    here : Exact T' rep ev' p o.seen o.built
    here = x.exact ev' p v.starts v.exact

    next : Exact T' rep ev' (p + 1) o.seen o.built
    next = exact_same row' here (λ c e. clash (cc))

    -- An MK of what is built.
    pub staged_built : On o.built (class_at rep y) → Staged T' n ev' rep (p + 1) (fresh_stage st.dead o st.grant st.best)
    staged_built b = record {
      starts = exact_starts row' next;
      exact = next;
      heard = heard_make rep ev' p y st.grant.seen v.heard at;
      zero = v.zero;
      own = v.own;
      kept = v.kept;
      planned = planned_built T' rep ev' p y at ((here.built y).0 b) st.best v.planned;
    }

    -- An MK of what is not.
    pub staged_tries : (On o.built (class_at rep y) → ⊥) → {g g' : Grant} → Grants T' n rep run p st.grant.seen st.grant.built g.seen g.built →
        {t : Trial} → Chosen T' n rep o g run p t → Costing g g' → {r : Choice} → Better st.best t r →
        Staged T' n ev' rep (p + 1) (fresh_stage st.dead o g' (Some r))
    staged_tries lacks {g} {g'} q c i b =
        let heard = heard_more rep ev' p st.grant.seen g.seen v.heard q.more.seen_kept in
        let kept : (d : ℕ) → On v.zero d → On g.built d = λ d j. q.more.built_kept d (v.kept d j) in
        record {
          starts = exact_starts row' next;
          exact = next;
          heard = subst (λ s. (d : ℕ) → Learnt ev' (p + 1) d → On s (class_at rep d)) (sym i.seen) (heard_make rep ev' p y g.seen heard at);
          zero = v.zero;
          own = v.own;
          kept = subst (λ s. (d : ℕ) → On v.zero d → On s d) (sym i.built) kept;
          planned = planned_tries T' rep ev' p v.planned
              (chosen_tries w s count p run told at here lacks
              (record {
                need = q.still.need;
                held = q.still.tight.held;
                over = q.still.tight.over;
                granted = still_granted w q.still row' v.own kept count heard;
              }) c) b;
        }

-- A stage with another plan.
abbrev pub with_best : Stage → Choice → Stage
with_best j r = record { dead = j.dead; seen = j.seen; built = j.built; grant = j.grant; best = Some r }

-- How many dead ends the position had says nothing of a stage.
pub staged_dead : {T : Table} {n p d : ℕ} {ev : Run} {rep : List ℕ} {st : Stage} → Staged T n ev rep p st →
    Staged T n ev rep p (record { dead = d; seen = st.seen; built = st.built; grant = st.grant; best = st.best })
staged_dead v = record { starts = v.starts; exact = v.exact; heard = v.heard; zero = v.zero; own = v.own; kept = v.kept; planned = v.planned }

-- The rows of a first stage, of one whose marks are found, and of what is granted after an MK.
pub rows_first : {T : Table} {n : ℕ} {rep run own : List ℕ} {st : Stage} → FirstStage own st → MarkRow rep own → StageRows T n rep run st
rows_first {rep = rep} f o = record {
  seen = subst (MarkRow rep) (sym f.seen) none_marked;
  built = subst (λ b. IfSome b (MarkRow rep)) (sym f.built) tt;
  grant = record {
    seen_marked = subst (MarkRow rep) (sym f.lit) none_marked;
    built_marked = subst (MarkRow rep) (sym f.had) o;
    still = λ e. absurd (true≢false (sym e ∙ f.calm));
    bares = λ e. absurd (true≢false (sym e ∙ f.calm));
  };
}

pub rows_fresh : {T : Table} {n d : ℕ} {rep run : List ℕ} {o : Marks} {g : Grant} {best : Option Choice} → MarkRow rep o.seen → MarkRow rep o.built → GrantRows T n rep run g →
    StageRows T n rep run (fresh_stage d o g best)
rows_fresh s b g = record { seen = s; built = b; grant = g }

pub rows_made : {T : Table} {n : ℕ} {rep run : List ℕ} {g g' : Grant} → GrantRows T n rep run g → Costing g g' → GrantRows T n rep run g'
rows_made {T} {n} {rep} {run} {g} {g'} v i = record {
  seen_marked = subst (MarkRow rep) (sym i.seen) v.seen_marked;
  built_marked = subst (MarkRow rep) (sym i.built) v.built_marked;
  still = λ e p. subst (λ s. Still T n rep run p s g'.built) (sym i.seen)
      (subst (λ b. Still T n rep run p g.seen b) (sym i.built) (v.still (sym i.calm ∙ e) p));
  bares = λ e. subst (λ s. BareTo T rep s g'.built g'.bare n) (sym i.seen) (subst (λ b. BareTo T rep g.seen b g'.bare n) (sym i.built)
      (subst (λ d. BareTo T rep g.seen g.built d n) (sym i.bare) (v.bares (sym i.calm ∙ e))));
}

-- An MK of what is not built: the stage j whose marks are found and to which what is tried is granted, with the better plan.
pub made_tries : {n : ℕ} {words rep run : List ℕ} (w : TableWords n words) (s : Solved n (table_in words) rep) {p y : ℕ} (told : y ≡ aim (event_in (get_or run p 0)))
    {st : Stage} {o : Marks} → Reopened (table_in words) rep st.seen st.built o → (On o.built (class_at rep y) → ⊥) →
    {g g' : Grant} → GrantRows (table_in words) n rep run g → Grants (table_in words) n rep run p st.grant.seen st.grant.built g.seen g.built →
    {t : Trial} → Chosen (table_in words) n rep o g run p t → Costing g g' → {j : Stage} → j ≡ fresh_stage st.dead o g' st.best → {r : Choice} → Better j.best t r →
    StageRows (table_in words) n rep run (with_best j r) × MadeStage (table_in words) n rep run p st (with_best j r)
made_tries {n} {words} {rep} {run} w s {p} told {st} x lacks rows q {t} c i e {r} =
    subst (λ (k : Stage). Better k.best t r → StageRows (table_in words) n rep run (with_best k r) × MadeStage (table_in words) n rep run p st (with_best k r)) (sym e)
    (λ b. (rows_fresh x.seen_marked x.built_marked (rows_made rows i), λ count z at v. staged_tries w s count p run told at v x lacks q c i b))

-- An LN: the rows, and what is known.
module _ {rep : List ℕ} {x : ℕ} {st r : Stage} (h : HeardStage rep x st r) where
  pub rows_heard : {T : Table} {n : ℕ} {run : List ℕ} → StageRows T n rep run st → StageRows T n rep run r
  rows_heard v = record {
    seen = h.seen.marked;
    built = subst (λ b. IfSome b (MarkRow rep)) (sym h.built) tt;
    grant = record {
      seen_marked = h.lit.marked;
      built_marked = subst (MarkRow rep) (sym h.had) v.grant.built_marked;
      still = λ e. absurd (true≢false (sym e ∙ h.calm));
      bares = λ e. absurd (true≢false (sym e ∙ h.calm));
    };
  }

  pub staged_heard : {m : ℕ} → ClassRow m rep → (T : Table) (n : ℕ) (ev : Run) (p : ℕ) → ev p ≡ some (LN x) → Staged T n ev rep p st → Staged T n ev rep (p + 1) r
  staged_heard w T n ev p at v = record {
    starts = starts_learn T w ev p v.starts x at h.seen;
    exact = subst (λ b. IfSome b (Exact T rep ev (p + 1) r.seen)) (sym h.built) tt;
    heard = heard_learn rep ev p x x st.grant.seen r.grant.seen v.heard at refl h.lit;
    zero = v.zero;
    own = v.own;
    kept = subst (λ s. (d : ℕ) → On v.zero d → On s d) (sym h.had) v.kept;
    planned = subst (Planned T ev rep (p + 1)) (sym h.best) (planned_learn T rep ev p x at st.best v.planned);
  }
