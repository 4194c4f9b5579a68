-- The classes and marks that are found in a table without variables and its events give the plan of what the events teach.
use mathlib.Core.Logic.{◌⊎◌, inl, inr}
use mathlib.Core.List.{List}
use Prim.Native.Nat.{ℕ}
use native.Mathlib.Decide.{ℕ_discrete}
use lib.ListN.{get_or}
use Rattle.model.specs.Case.{Table, Run, Heard}
use Rattle.model.specs.Stored.{table_in}
use Rattle.theory.specs.Cells.{TableWords, class_at, On}
use Rattle.knowledge.specs.declared.heard.Knowledge.{Knowledge}
use Rattle.knowledge.specs.Heard.{HeardOpened}
use Rattle.knowledge.proofs.ClassRows.{kept_row}
use Rattle.reducing.specs.Given.{Solid, Given}
use Rattle.reducing.specs.declared.Plan.{Plan}
use Rattle.reducing.specs.Plan.{Plans, PlansRun}
use Rattle.reducing.proofs.ReducedLaws.{rest_builds}

module _ (n : ℕ) (words : List ℕ) (w : TableWords n words) (solid : Solid words) (ev : Run) (k : Knowledge)
    (h : HeardOpened n (table_in words) ev k) where
  abbrev T : Table
  T = table_in words

  pub run_given : Given n words k.rep
  run_given = record {
    rows = w;
    classes = kept_row w h.classes.solved.kept;
    lowest = λ c lt. h.classes.solved.kept.reps.lowest c (solid c);
    solid = solid;
  }

  abbrev D : ℕ → Type 0
  D c = On k.built (class_at k.rep c)

  built? : (c : ℕ) → D c ⊎ (D c → ⊥)
  built? c = elim (ℕ_discrete (get_or k.built (class_at k.rep c) 0) 1) [ yes e ↦ inl e | no ne ↦ inr ne ]

  pub run_plans : (p : Plan) → Plans T k.rep k.built p → PlansRun T ev p
  run_plans p plans m reads = (
    plans m ev (record { reads = reads; exact = h.exact solid m reads; marked = h.built solid m reads }),
    rest_builds T m reads solid (Heard ev m) D (h.built solid m reads) (λ x (c, q, e, i). (c, i)) built?,
  )
