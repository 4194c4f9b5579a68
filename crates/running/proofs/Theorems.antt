-- The main theorems of the run, on bytes: a list that is shown is right, and "no" means that there is none.
use mathlib.Core.Path.{◌≡◌}
use mathlib.Core.List.{List}
use mathlib.Core.Logic.{◌↔◌, inl, inr}
use Prim.Native.Nat.{ℕ}
use lib.ListN.{length}
use Rattle.std.specs.Prelude.{Option, Some, None, Result, Ok}
use Rattle.model.specs.Case.{File}
use Rattle.model.specs.Replies.{RightListed, NoneRight, laid, SameButList}
use Rattle.refusals.specs.declared.Refusal.{Refusal}
use Rattle.running.specs.Promise.{Answered, RunPromise}
use Rattle.running.proofs.PromiseLaws.{settled, no_and_yes}

-- Two replies, with their buffers, that meet the promise for one input are equal but for which right list is shown.
pub run_settled : (file before : List ℕ) (r r' : Result (Option ℕ) Refusal) (after after' : List ℕ) → RunPromise file before r after → RunPromise file before r' after' →
    (r ≡ r') × SameButList RightListed file before after after'
run_settled = settled

module _ (file before : List ℕ) (reply : Result (Option ℕ) Refusal) (after : List ℕ) (p : RunPromise file before reply after) (f : File) (q : Answered file before f) where
  -- "Yes" comes with a value list in good form whose values are right: the list check calls it right.
  pub run_sound : reply ≡ Ok (Some (length f.cells)) → (list : List ℕ) × RightListed f list × (after ≡ laid list before)
  run_sound = p.yes f q

  -- "No" exactly if no finite values are right.
  pub run_complete : (reply ≡ Ok None) ↔ NoneRight f
  run_complete = (
    λ e. (p.no f q e).0,
    λ none. elim (p.replied f q) [
      | inl e ↦ e
      | inr e ↦ (let (list, w, k) = p.yes f q e in absurd (no_and_yes file f list q.read none w))
    ],
  )
