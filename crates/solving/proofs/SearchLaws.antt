-- The steps of the search: when it says yes, and when no; and the list that it ends with.
use mathlib.Core.Path.{◌≡◌, sym, ◌∙◌}
use mathlib.Core.Logic.{◌⊎◌, inl, inr}
use mathlib.Core.List.{List}
use Prim.Native.Nat.{ℕ, ◌<◌}
use native.Mathlib.Omega.{arith}
use native.Mathlib.Decide.{dec_lt}
use Rattle.std.specs.Prelude.{Some}
use Rattle.std.specs.Prelude as option
use Rattle.model.specs.Message.{atom}
use Rattle.model.specs.Case.{Table, Run, WellFormed}
use Rattle.model.specs.Stored.{table_in}
use Rattle.theory.specs.Cells.{TableWords, class_at, On}
use Rattle.theory.specs.Level.{Kin}
use Rattle.theory.specs.Search.{None, NoneWith}
use Rattle.theory.proofs.Rows.{rows_formed, rows_var}
use Rattle.theory.proofs.Step.{clash_none, none_sym, reply_no}
use Rattle.classes.specs.Kept.{Solved}
use Rattle.classes.specs.Twins.{Start}
use Rattle.classes.proofs.SolvedLaws.{solved_state, solved_grounds}
use Rattle.theory.proofs.MarkRows.{on?}
use Rattle.granting.proofs.KinLaws.{kin_sym, kin_below}
use Rattle.knowledge.proofs.ClassRows.{kept_row}
use Rattle.solving.specs.Listing.{Listed}
use Rattle.solving.specs.Pairs.{Mirrored, Pairs, place, ChildOf}
use Rattle.solving.specs.Plans.{Plans}
use Rattle.solving.specs.Searches.{Searched, Solves}
use Rattle.solving.specs.declared.plan.Choice.{Choice}
use Rattle.solving.specs.declared.search.Child.{Child}
use Rattle.solving.proofs.ListLaws.{list_form, list_right}

module _ (T : Table) (n : ℕ) (ev : Run) (rep want bare : List ℕ) where
  -- No right values that satisfy the classes make a pair before the place `to` equal.
  abbrev pub Tried : ℕ → Type 0
  Tried to = (c d : ℕ) → c < n → d < n → place c d < to → Pairs T rep want bare c d → NoneWith T ev (class_at rep) c d

  pub tried_none : Tried (place 0 0)
  tried_none c d h g l = absurd (omega arith)

  module _ (c d : ℕ) (old : Tried (place c d)) where
    pub tried_next : {h : Child} → ChildOf T n rep want bare (place c d) (Some h) → None T ev (class_at h.rep) → Tried (place h.after.c h.after.d)
    tried_next w no_one i j hi hj l p = elim (dec_lt (place i j) (place c d)) [
      | yes g ↦ old i j hi hj g p
      | no g ↦ (λ m mr right s z. no_one m mr right (w.passed i j hi hj (omega arith) l p m mr s z))
    ]

    pub tried_all : ChildOf T n rep want bare (place c d) option.None → (i j : ℕ) → i < n → j < n → Pairs T rep want bare i j → NoneWith T ev (class_at rep) i j
    tried_all w i j hi hj p = elim (dec_lt (place i j) (place c d)) [
      | yes g ↦ old i j hi hj g p
      | no g ↦ clash_none T ev (class_at rep) i j (w.none i j hi hj (omega arith) p)
    ]

  mirrored? : (c d : ℕ) → Mirrored want bare c d ⊎ (Mirrored want bare c d → ⊥)
  mirrored? c d = elim (dec_lt d c) [
    | no g ↦ inr (λ w. let l = w.lower in omega arith)
    | yes l ↦ elim (on? want d) [
      | inr g ↦ inr (λ w. g w.wants)
      | inl x ↦ elim (on? bare c) [ inr g ↦ inr (λ w. g w.bares) | inl y ↦ inl (record { lower = l; wants = x; bares = y }) ]
    ]
  ]

  -- A pair that stands the other way round too was tried that way.
  pub tried_pairs : ((i j : ℕ) → i < n → j < n → Pairs T rep want bare i j → NoneWith T ev (class_at rep) i j) →
      (c d : ℕ) → c < n → d < n → On want c → On bare d → Kin (T c) (T d) → (class_at rep c ≡ class_at rep d → ⊥) → NoneWith T ev (class_at rep) c d
  tried_pairs all c d hc hd x y k a = elim (mirrored? c d) [
    | inr l ↦ all c d hc hd (record { wants = x; bares = y; apart = a; lone = l; kin = k })
    | inl m ↦ none_sym T ev (class_at rep) c d (all d c hd hc (record {
      wants = m.wants;
      bares = m.bares;
      apart = λ e. a (sym e);
      lone = λ w. (let l = w.lower in let g = m.lower in omega arith);
      kin = kin_sym k;
    }))
  ]

module _ {n : ℕ} {words rep : List ℕ} (w : TableWords n words) (ev : Run) (s : Solved n (table_in words) rep) where
  abbrev T : Table
  T = table_in words

  pub searched_yes : Plans T ev rep option.None → Searched T n ev rep (Some rep)
  searched_yes p = record { solved = s; ready = p.ready; none = tt }

  pub searched_no : WellFormed T ev → (pl : Choice) → Plans T ev rep (Some pl) →
      ((i j : ℕ) → i < n → j < n → Pairs T rep pl.trial.want pl.trial.bare i j → NoneWith T ev (class_at rep) i j) → Searched T n ev rep option.None
  searched_no wf pl p all = record {
    solved = tt;
    ready = tt;
    none =
        p.tries wf
        (λ c d ec ed x z k a. tried_pairs T n ev rep pl.trial.want pl.trial.bare all c d (kin_below w c d k).0 (kin_below w c d k).1 x z k (λ i. a (sym ec ∙ (i ∙ ed))));
  }

pub searched_child : (T : Table) (n : ℕ) (ev : Run) (rep next : List ℕ) {out : List ℕ} → Searched T n ev next (Some out) → Searched T n ev rep (Some out)
searched_child T n ev rep next x = record { solved = x.solved; ready = x.ready; none = tt }

-- ---- the reply

module _ {n : ℕ} {words : List ℕ} (w : TableWords n words) (ev : Run) (rep : List ℕ) (st : Start n (table_in words) rep) where
  pub solves : {out list : List ℕ} → Searched (table_in words) n ev rep (Some out) → Listed (table_in words) n out list n → Solves (table_in words) n ev (Some list)
  solves {out} x l = record {
    form = list_form w.few l;
    right =
        let (τ, τr) = solved_grounds n (table_in words) out x.solved (λ c. atom 0) in
        list_right w.few l ev (rows_formed w) (kept_row w x.solved.kept) (solved_state n (table_in words) out x.solved) (rows_var w) τ τr x.ready;
    none = tt;
  }

  pub solves_none : Searched (table_in words) n ev rep option.None → Solves (table_in words) n ev option.None
  solves_none x = record { form = tt; right = tt; none = λ ρ. reply_no (table_in words) ev (class_at rep) w.lower st.met x.none ρ }
