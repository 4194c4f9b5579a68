-- What a run promises, for any bytes and any buffer. Assumes nothing.
-- Answered: the file is accepted and the buffer has room; RunPromise: the contract, a field for each sentence.
use Rattle.std.specs.Prelude.{◌≡◌, List, ◌⊎◌, ℕ, ◌≤◌, ◌<◌, length, Option, Some, None, Result, Ok}
use Rattle.model.specs.Case.{File}
use Rattle.model.specs.Format.{read_file, accepted}
use Rattle.model.specs.Replies.{RightListed, NoneRight, laid, Untouched, FileRefused}
use Rattle.refusals.specs.declared.Refusal.{Refusal}
use Rattle.refusals.specs.Refused.{Refused}

-- The bytes are accepted as the file f, and the buffer is not shorter than the reply.
pub record Answered (file before : List ℕ) (f : File) : Type 0 where
  pub read : read_file file ≡ accepted f
  pub room : length f.cells ≤ length before

-- The reply to the run of a file, and the buffer before and after.
pub record RunPromise (file before : List ℕ) (reply : Result (Option ℕ) Refusal) (after : List ℕ) : Type 0 where
  -- the file's own refusals come first, and leave the buffer as it was
  pub refused : FileRefused file λ n p. Untouched (Refused n p) reply before after
  -- then 9, with the cell count, if the buffer is shorter; it comes before "no"
  pub short : (f : File) → read_file file ≡ accepted f → length before < length f.cells → Untouched (Refused 9 (length f.cells)) reply before after
  -- then the reply is "no" or "yes" with a list of one byte for each cell
  pub replied : (f : File) → Answered file before f → (reply ≡ Ok None) ⊎ (reply ≡ Ok (Some (length f.cells)))
  -- "no": no values of the variables are right, and nothing is written
  pub no : (f : File) → Answered file before f → reply ≡ Ok None → NoneRight f × (after ≡ before)
  -- "yes": a value list in good form that is right stands at the front of the buffer, and no byte beyond it is touched
  pub yes : (f : File) → Answered file before f → reply ≡ Ok (Some (length f.cells)) → (list : List ℕ) × RightListed f list × (after ≡ laid list before)
