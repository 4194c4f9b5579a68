-- The choice of what is tried at one step: its plan.
-- Exact: rows that are the marks at a position; GrantedAt: rows that are granted there; Chosen: what is tried at a position; Tries: that it is enough; Better: the better of two;
-- Planned, Plans: what a plan says, of the events before a position and of all; Reopened: marks found again; Costing: what is granted with other costs;
-- LineChance: a way down that is tried; StageRows, Staged: what is known before a position; fresh_stage, FirstStage: stages that are made; MadeStage, HeardStage, Stepped: one event more.
use Rattle.std.specs.Prelude.{Option, Some, None, IfSome, IfNone, ◌≡◌, ◌↔◌, false, List, ℕ, ◌+◌, ◌<◌, get_or, replicate}
use Rattle.std.proofs.Math.Option.{some}
use Rattle.model.specs.Case.{MK, Table, Run, Learnt, WellFormed}
use Rattle.model.specs.Stored.{run_in, event_in, aim}
use Rattle.theory.specs.Cells.{class_at, On}
use Rattle.theory.specs.Level.{Mark, seen, built}
use Rattle.theory.specs.Cut.{Enough, Granted}
use Rattle.knowledge.specs.Knowledge.{MarkRow, Learns, Starts}
use Rattle.knowledge.specs.Sweeps.{OwnMarks}
use Rattle.knowledge.specs.declared.Marks.{Marks}
use Rattle.wants.specs.Starts.{BareTo}
use Rattle.wants.specs.Sets.{WantedRow}
use Rattle.granting.specs.Meets.{May}
use Rattle.granting.specs.Line.{LineRow}
use Rattle.granting.specs.Grants.{GrantRows}
use Rattle.granting.specs.declared.grants.Grant.{Grant}
use Rattle.solving.specs.declared.plan.Trial.{Trial}
use Rattle.solving.specs.declared.plan.Choice.{Choice}
use Rattle.solving.specs.declared.plan.Stage.{Stage}

-- The rows are the marks of what is seen and of what is built at position p.
pub record Exact (T : Table) (rep : List ℕ) (ev : Run) (p : ℕ) (seens builts : List ℕ) : Type 0 where
  pub seen : (c : ℕ) → On seens (class_at rep c) ↔ Mark T (class_at rep) ev p seen c
  pub built : (c : ℕ) → On builts (class_at rep c) ↔ Mark T (class_at rep) ev p built c
  pub seen_marked : MarkRow rep seens
  pub built_marked : MarkRow rep builts

-- The rows are granted at position p, with rows of what is needed, of what holds a free class, and of what is over one.
pub record GrantedAt (T : Table) (rep : List ℕ) (ev : Run) (p : ℕ) (seens builts : List ℕ) : Type 0 where
  pub need : List ℕ
  pub held : List ℕ
  pub over : List ℕ
  pub granted : Granted T (class_at rep) ev p (May T rep) (On seens) (On builts) (On need) (On held) (On over)

-- What is tried at the MK at p: a way down through what is not built by the marks g that are granted, or all that may help by the marks o of what is seen and built.
pub data Chosen (T : Table) (n : ℕ) (rep : List ℕ) (o : Marks) (g : Grant) (run : List ℕ) (p : ℕ) (x : Trial) : Type 0 where
  line : LineRow T rep g.built (class_at rep (aim (event_in (get_or run p 0)))) x.want → BareTo T rep g.seen g.built x.bare n → Chosen T n rep o g run p x
  all : WantedRow T rep o.seen o.built run p x.want → BareTo T rep o.seen o.built x.bare n → Chosen T n rep o g run p x

-- If no pair of want and bare can be made equal by right values, there are none.
abbrev pub Tries : Table → Run → List ℕ → List ℕ → List ℕ → Type 0
Tries T ev rep want bare = WellFormed T ev → Enough T ev (class_at rep) (On want) (On bare)

-- The plan r is the plan `best`, or it tries x.
pub data Better (best : Option Choice) (x : Trial) (r : Choice) : Type 0 where
  old : best ≡ Some r → Better best x r
  new : r.trial ≡ x → Better best x r

-- Without a plan: what is to be made before position `upto` is built there. Else what the plan tries is enough.
pub record Planned (T : Table) (ev : Run) (rep : List ℕ) (upto : ℕ) (pl : Option Choice) : Type 0 where
  pub ready : IfNone pl ((q t : ℕ) → q < upto → ev q ≡ some (MK t) → Mark T (class_at rep) ev q built t)
  pub tries : IfSome pl λ x. Tries T ev rep x.trial.want x.trial.bare

-- The same for all positions.
pub record Plans (T : Table) (ev : Run) (rep : List ℕ) (pl : Option Choice) : Type 0 where
  pub ready : IfNone pl ((q t : ℕ) → ev q ≡ some (MK t) → Mark T (class_at rep) ev q built t)
  pub tries : IfSome pl λ x. Tries T ev rep x.trial.want x.trial.bare

-- The marks r are those at each position at which one may start from the marks seens; if there is a row builts, where the rows seens and builts are the marks.
pub record Reopened (T : Table) (rep seens : List ℕ) (builts : Option (List ℕ)) (r : Marks) : Type 0 where
  pub seen_marked : MarkRow rep r.seen
  pub built_marked : MarkRow rep r.built
  pub exact : (ev : Run) (p : ℕ) → Starts T rep ev p seens → IfSome builts (Exact T rep ev p seens) → Exact T rep ev p r.seen r.built

-- What is granted differs at most in the costs.
pub record Costing (g r : Grant) : Type 0 where
  pub calm : r.calm ≡ g.calm
  pub seen : r.seen ≡ g.seen
  pub built : r.built ≡ g.built
  pub bare : r.bare ≡ g.bare

-- A way down from t that is tried, with the cells that are bare by what is granted, g; of this only the costs differ in r.
pub record LineChance (T : Table) (rep : List ℕ) (g : Grant) (t : ℕ) (x : Trial) (r : Grant) : Type 0 where
  pub line : LineRow T rep g.built t x.want
  pub bare : x.bare ≡ g.bare
  pub costs : Costing g r

-- The rows of a stage.
pub record StageRows (T : Table) (n : ℕ) (rep run : List ℕ) (st : Stage) : Type 0 where
  pub seen : MarkRow rep st.seen
  pub built : IfSome st.built (MarkRow rep)
  pub grant : GrantRows T n rep run st.grant

-- What is known before position p: marks to start from, or, if there are those of what is built, the marks at p; what is granted holds what is learnt, and his own name; a plan of the positions before.
pub record Staged (T : Table) (n : ℕ) (ev : Run) (rep : List ℕ) (p : ℕ) (st : Stage) : Type 0 where
  pub starts : Starts T rep ev p st.seen
  pub exact : IfSome st.built (Exact T rep ev p st.seen)
  pub heard : (c : ℕ) → Learnt ev p c → On st.grant.seen (class_at rep c)
  pub zero : List ℕ
  pub own : OwnMarks n rep zero
  pub kept : (c : ℕ) → On zero c → On st.grant.built c
  pub planned : Planned T ev rep p st.best

-- A stage whose marks o are found.
abbrev pub fresh_stage : ℕ → Marks → Grant → Option Choice → Stage
fresh_stage dead o g best = record { dead = dead; seen = o.seen; built = Some o.built; grant = g; best = best }

-- The stage before the first event: nothing is learnt, the marks `own` are granted, and nothing is to be tried.
pub record FirstStage (own : List ℕ) (st : Stage) : Type 0 where
  pub calm : st.grant.calm ≡ false
  pub seen : st.seen ≡ replicate 129 0
  pub built : st.built ≡ None
  pub lit : st.grant.seen ≡ replicate 129 0
  pub had : st.grant.built ≡ own
  pub ready : st.best ≡ None

-- An MK takes the stage st before p to the stage r after it.
abbrev pub MadeStage : Table → ℕ → List ℕ → List ℕ → ℕ → Stage → Stage → Type 0
MadeStage T n rep run p st r = (count x : ℕ) → run_in count run p ≡ some (MK x) → Staged T n (run_in count run) rep p st →
    Staged T n (run_in count run) rep (p + 1) r

-- An LN of the cell x takes st to r.
pub record HeardStage (rep : List ℕ) (x : ℕ) (st r : Stage) : Type 0 where
  pub seen : Learns rep st.seen x r.seen
  pub built : r.built ≡ None
  pub calm : r.grant.calm ≡ false
  pub lit : Learns rep st.grant.seen x r.grant.seen
  pub had : r.grant.built ≡ st.grant.built
  pub best : r.best ≡ st.best

-- The event at p takes st to r.
abbrev pub Stepped : Table → ℕ → List ℕ → List ℕ → ℕ → Stage → Stage → Type 0
Stepped T n rep run p st r = (count : ℕ) → p < count → Staged T n (run_in count run) rep p st → Staged T n (run_in count run) rep (p + 1) r
