-- The promise of reducing: a refusal with its number and place, or the reduced file at the front of the buffer. Assumes nothing.
-- SameBuilt: files that let him build the same; ReducePromise: the reply and the buffer after it, for every file and every buffer before it.
use Rattle.std.specs.Prelude.{◌≡◌, ◌↔◌, List, ℕ, ◌≤◌, ◌<◌, length, Result, Ok}
use Rattle.std.proofs.Math.Option.{some, none}
use Rattle.refusals.specs.declared.Refusal.{Refusal}
use Rattle.refusals.specs.Refused.{Refused}
use Rattle.model.specs.Message.{Message, Built}
use Rattle.model.specs.Case.{File}
use Rattle.model.specs.Format.{Reading, read_file, first_variable}
use Rattle.model.specs.Replies.{HeardOf, ReducedTo, laid, Untouched, FileRefused}

-- The same can be built from all LN messages of the one file and of the other.
abbrev pub SameBuilt : File → File → Type 0
SameBuilt f g = (x : Message) → Built (HeardOf f) x ↔ Built (HeardOf g) x

-- What is promised of the reply to a file, and of the bytes of the buffer before and after it.
pub record ReducePromise (file before : List ℕ) (answer : Result ℕ Refusal) (after : List ℕ) : Type 0 where
  -- A file at fault is refused with its number and place, and the buffer is untouched.
  pub refused : FileRefused file λ n p. Untouched (Refused n p) answer before after
  -- A VA cell is refused with 8 at the first VA.
  pub variable : (f : File) (at : ℕ) → read_file file ≡ Reading.accepted f → first_variable f.cells ≡ some at → Untouched (Refused 8 at) answer before after
  -- A file without variables has a reduced file: its bytes are those of a file of at most 128 cells, which lets him build the same.
  pub exists : (f : File) → read_file file ≡ Reading.accepted f → first_variable f.cells ≡ none →
      (bytes : List ℕ) × (t : ReducedTo f bytes) × (length t.1.cells ≤ 128) × SameBuilt t.1 f
  -- A buffer shorter than the reduced file is refused with 9 and the length needed.
  pub short : (f : File) (bytes : List ℕ) → read_file file ≡ Reading.accepted f → ReducedTo f bytes → length before < length bytes →
      Untouched (Refused 9 (length bytes)) answer before after
  -- Otherwise the reduced file lies at the front of the buffer, and no byte beyond it is touched.
  pub reduced : (f : File) (bytes : List ℕ) → read_file file ≡ Reading.accepted f → ReducedTo f bytes → length bytes ≤ length before →
      (answer ≡ Ok (length bytes)) × (after ≡ laid bytes before)
