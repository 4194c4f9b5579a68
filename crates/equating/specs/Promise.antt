-- What equating promises, for any bytes and any two numbers: the refusals in their order, "no", and the list.
-- Asked: the cells asked about are cells of the file; Answered: and the buffer has room; EquatePromise: the contract, a field for each sentence. Assumes nothing.
use Rattle.std.specs.Prelude.{◌≡◌, List, ◌⊎◌, ℕ, ◌≤◌, ◌<◌, length, Option, Some, None, Result, Ok}
use Rattle.model.specs.Case.{File}
use Rattle.model.specs.Format.{read_file, accepted}
use Rattle.model.specs.Replies.{EquatedBy, NeverEqual, laid, Untouched, FileRefused}
use Rattle.refusals.specs.declared.Refusal.{Refusal}
use Rattle.refusals.specs.Refused.{Refused}

-- The bytes are accepted as the file f, and a and b are cells of it.
pub record Asked (file : List ℕ) (a b : ℕ) (f : File) : Type 0 where
  pub read : read_file file ≡ accepted f
  pub first : a < length f.cells
  pub second : b < length f.cells

-- And the buffer is not shorter than the reply.
pub record Answered (file : List ℕ) (a b : ℕ) (before : List ℕ) (f : File) : Type 0 where
  pub asked : Asked file a b f
  pub room : length f.cells ≤ length before

-- The reply to the cells a and b of a file, and the buffer before and after.
pub record EquatePromise (file : List ℕ) (a b : ℕ) (before : List ℕ) (reply : Result (Option ℕ) Refusal) (after : List ℕ) : Type 0 where
  -- the file's own refusals come first, and leave the buffer as it was
  pub refused : FileRefused file λ n p. Untouched (Refused n p) reply before after
  -- then 5, with the cell count, if a or b is not below the cell count
  pub outside : (f : File) → read_file file ≡ accepted f → (length f.cells ≤ a) ⊎ (length f.cells ≤ b) →
      Untouched (Refused 5 (length f.cells)) reply before after
  -- then 9, with the cell count, if the buffer is shorter
  pub short : (f : File) → Asked file a b f → length before < length f.cells → Untouched (Refused 9 (length f.cells)) reply before after
  -- then the reply is "no" or a list of one byte for each cell
  pub replied : (f : File) → Answered file a b before f → (reply ≡ Ok None) ⊎ (reply ≡ Ok (Some (length f.cells)))
  -- "no": no values of the variables make the two cells equal, and nothing is written
  pub no : (f : File) → Answered file a b before f → reply ≡ Ok None → NeverEqual f a b × (after ≡ before)
  -- a list: it equates the two cells, stands at the front of the buffer, and no byte beyond it is touched
  pub listed : (f : File) → Answered file a b before f → reply ≡ Ok (Some (length f.cells)) →
      (list : List ℕ) × EquatedBy f a b list × (after ≡ laid list before)
