-- The promise of build marks: the refusals in their order, and the marks. Assumes nothing.
-- MarksPromise: the reply and the buffer after it, for every file and every buffer before it.
use Rattle.std.specs.Prelude.{◌≡◌, List, ℕ, ◌≤◌, ◌<◌, length, Result, Ok}
use Rattle.std.proofs.Math.Option.{some, none}
use Rattle.model.specs.Case.{File}
use Rattle.model.specs.Format.{Reading, read_file, first_variable}
use Rattle.model.specs.Replies.{MarkList, laid, Untouched, FileRefused}
use Rattle.refusals.specs.declared.Refusal.{Refusal}
use Rattle.refusals.specs.Refused.{Refused}

-- What is promised of the reply to a file, and of the bytes of the buffer before and after it.
pub record MarksPromise (file before : List ℕ) (reply : Result ℕ Refusal) (after : List ℕ) : Type 0 where
  -- A file at fault is refused with its number and place, and the buffer is untouched.
  pub refused : FileRefused file λ n p. Untouched (Refused n p) reply before after
  -- A VA cell is refused with 8 at the first VA.
  pub variable : (f : File) (at : ℕ) → read_file file ≡ Reading.accepted f → first_variable f.cells ≡ some at → Untouched (Refused 8 at) reply before after
  -- A buffer shorter than the reply is refused with 9 and the length needed, the cell count.
  pub short : (f : File) → read_file file ≡ Reading.accepted f → first_variable f.cells ≡ none → length before < length f.cells →
      Untouched (Refused 9 (length f.cells)) reply before after
  -- Otherwise the marks, one byte per cell, lie at the front of the buffer, and no byte beyond them is touched.
  pub marks : (f : File) → read_file file ≡ Reading.accepted f → first_variable f.cells ≡ none → length f.cells ≤ length before →
      (reply ≡ Ok (length f.cells)) × (list : List ℕ) × MarkList f list × (after ≡ laid list before)
