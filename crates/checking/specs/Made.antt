-- What is to be made, event by event.
-- MadeAt: one event; AllMade: all of them.
use Rattle.std.specs.Prelude.{◌≡◌, Bool, true, false, List, ℕ}
use Rattle.std.proofs.Math.Option.{some}
use Rattle.model.specs.Case.{MK, Table, Run}
use Rattle.theory.specs.Cells.{class_at}
use Rattle.theory.specs.Level.{Mark, built}

-- r says whether what the event at p asks for, if it is an MK, is built from what was learnt before it.
pub record MadeAt (T : Table) (rep : List ℕ) (ev : Run) (p : ℕ) (r : Bool) : Type 0 where
  pub yes : r ≡ true → (t : ℕ) → ev p ≡ some (MK t) → Mark T (class_at rep) ev p built t
  pub no : r ≡ false → (t : ℕ) × (ev p ≡ some (MK t)) × (Mark T (class_at rep) ev p built t → ⊥)

-- r says whether what each MK asks for is built from what was learnt before it.
pub record AllMade (T : Table) (rep : List ℕ) (ev : Run) (r : Bool) : Type 0 where
  pub yes : r ≡ true → (p t : ℕ) → ev p ≡ some (MK t) → Mark T (class_at rep) ev p built t
  pub no : r ≡ false → (p : ℕ) × (t : ℕ) × (ev p ≡ some (MK t)) × (Mark T (class_at rep) ev p built t → ⊥)
