-- What the search says.
use Rattle.std.specs.Prelude.{Option, IfSome, IfNone, ◌≡◌, List, ℕ, get_or, take}
use Rattle.std.proofs.Math.Option.{some}
use Rattle.model.specs.Message.{Message}
use Rattle.model.specs.Case.{MK, Table, Run}
use Rattle.model.specs.Values.{cell_of, Form, RightList, RightValues}
use Rattle.theory.specs.Cells.{class_at}
use Rattle.theory.specs.Level.{Mark, built}
use Rattle.theory.specs.Search.{None}
use Rattle.classes.specs.Kept.{Solved}

-- Classes at which everything that is to be made is built; none, if no right values satisfy the classes rep.
pub record Searched (T : Table) (n : ℕ) (ev : Run) (rep : List ℕ) (r : Option (List ℕ)) : Type 0 where
  pub solved : IfSome r λ out. Solved n T out
  pub ready : IfSome r λ out. (p t : ℕ) → ev p ≡ some (MK t) → Mark T (class_at out) ev p built t
  pub none : IfNone r (None T ev (class_at rep))

-- A list of which the first n bytes are a right value list in good form; none, if no values are right.
pub record Solves (T : Table) (n : ℕ) (ev : Run) (r : Option (List ℕ)) : Type 0 where
  pub form : IfSome r λ list. Form T n (take n list)
  pub right : IfSome r λ list. RightList T ev (λ v. cell_of (get_or (take n list) v 0))
  pub none : IfNone r ((ρ : ℕ → Message) → RightValues T ev ρ → ⊥)
