-- What the contract that other crates rely on settles.
use mathlib.Core.Path.{◌≡◌, refl}
use mathlib.Core.List.{List}
use Prim.Native.Nat.{ℕ}
use lib.ListN.{get_or, take}
use Rattle.std.specs.Prelude.{Option, Some, None, is_some}
use Rattle.model.specs.Case.{Table, Run, Lower}
use Rattle.model.specs.Values.{cell_of}
use Rattle.model.proofs.Read.{list_values}
use Rattle.solving.specs.Searches.{Solves}

-- Two replies of `solve` that meet its contract are both a list or both none.
pub solve_settled : (T : Table) (n : ℕ) (ev : Run) → Lower T → (r r' : Option (List ℕ)) → Solves T n ev r → Solves T n ev r' → is_some r ≡ is_some r'
solve_settled T n ev low = go
  where
    both : (list : List ℕ) → Solves T n ev (Some list) → Solves T n ev None → ⊥
    both list w w' = let (ρ, right) = list_values T ev (λ v. cell_of (get_or (take n list) v 0)) low w.right in w'.none ρ right

    go : (r r' : Option (List ℕ)) → Solves T n ev r → Solves T n ev r' → is_some r ≡ is_some r'
    go (Some list) (Some list') w w' = refl
    go (Some list) None w w' = absurd (both list w w')
    go None (Some list) w w' = absurd (both list w' w)
    go None None w w' = refl
