-- The promise of the reply as text, for any bytes. Assumes nothing.
-- Written: a text in a buffer; ReplyPromise: the lines are written; SameButValues: two replies are equal but for the list whose values they show.
use Rattle.std.specs.Prelude.{◌≡◌, List, ℕ, ◌≤◌, ◌<◌, length}
use Rattle.model.specs.Case.{File}
use Rattle.model.specs.Format.{read_file, accepted}
use Rattle.model.specs.Replies.{RightListed, laid}
use Rattle.printing.specs.Lines.{Lines, yes_lines}

-- The text lies at the front of the buffer, n is its length, and no byte beyond it is touched.
pub record Written (text before : List ℕ) (n : ℕ) (after : List ℕ) : Type 0 where
  pub size : n ≡ length text
  pub room : n ≤ length before
  pub bytes : after ≡ laid text before

-- The reply to a file, and the buffer before and after.
pub record ReplyPromise (file before : List ℕ) (n : ℕ) (after : List ℕ) : Type 0 where
  -- 1,437 bytes are enough; a shorter buffer is left as it was, and the reply is 0
  pub short : length before < 1437 → (n ≡ 0) × (after ≡ before)
  -- otherwise the lines of the reply are written
  pub written : 1437 ≤ length before → (text : List ℕ) × Lines file text × Written text before n after

-- Two replies to a file are equal; or both are "yes", each with the values of a right list.
pub data SameButValues (file before : List ℕ) (n n' : ℕ) (after after' : List ℕ) : Type 0 where
  same : n ≡ n' → after ≡ after' → SameButValues file before n n' after after'
  values : (f : File) (list list' : List ℕ) → read_file file ≡ accepted f → RightListed f list → RightListed f list' →
      Written (yes_lines f list) before n after → Written (yes_lines f list') before n' after' → SameButValues file before n n' after after'
