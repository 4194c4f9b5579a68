-- What the list check replies, sentence by sentence. Assumes nothing.
-- CheckPromise: the reply to a file and a list, for any bytes.
use Rattle.std.specs.Prelude.{◌≡◌, Bool, true, false, List, ℕ, ◌<◌, length, get_or, Result, Ok}
use Rattle.refusals.specs.declared.Refusal.{Refusal}
use Rattle.refusals.specs.Refused.{Refused}
use Rattle.model.specs.Case.{File, table_of}
use Rattle.model.specs.Values.{Entry}
use Rattle.model.specs.Format.{Reading, read_file}
use Rattle.model.specs.Replies.{FormOf, RightOf, RightListed, FileRefused}

-- The entry of the cell c has the form of a value list of the file.
abbrev pub EntryOf : File → List ℕ → ℕ → Type 0
EntryOf f list c = Entry (table_of f.cells) (length f.cells) c (get_or list c 0)

-- The reply to a file and a value list.
pub record CheckPromise (file list : List ℕ) (reply : Result Bool Refusal) : Type 0 where
  -- a file that is refused is refused so
  pub refused : FileRefused file λ n p. reply ≡ Refused n p
  -- refusal 10 if the list's length is not the cell count; place: the cell count
  pub size : (f : File) → read_file file ≡ Reading.accepted f → (length list ≡ length f.cells → ⊥) → reply ≡ Refused 10 (length f.cells)
  -- else refusal 10 if an entry has not the form; place: the number of the first such entry
  pub form : (f : File) → read_file file ≡ Reading.accepted f → length list ≡ length f.cells →
      (c : ℕ) → c < length f.cells → ((d : ℕ) → d < c → EntryOf f list d) → (EntryOf f list c → ⊥) → reply ≡ Refused 10 c
  -- "right" if following the list never comes round and the values are right
  pub right : (f : File) → read_file file ≡ Reading.accepted f → RightListed f list → reply ≡ Ok true
  -- otherwise "wrong"
  pub wrong : (f : File) → read_file file ≡ Reading.accepted f → FormOf f list → (RightOf f list → ⊥) → reply ≡ Ok false
  -- exactly if: what the replies say of an accepted file
  pub right_only : (f : File) → read_file file ≡ Reading.accepted f → reply ≡ Ok true → RightListed f list
  pub wrong_only : (f : File) → read_file file ≡ Reading.accepted f → reply ≡ Ok false → FormOf f list × (RightOf f list → ⊥)
