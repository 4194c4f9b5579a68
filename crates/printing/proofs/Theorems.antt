-- The main theorems of this crate, each cited with its full statement.
use mathlib.Core.Path.{◌≡◌}
use mathlib.Core.List.{List}
use Prim.Native.Nat.{ℕ, ◌≤◌}
use lib.ListN.{take}
use Rattle.model.proofs.Claims.{D, E, J, bytes_of}
use Rattle.printing.specs.Lines.{Lines}
use Rattle.printing.specs.Promise.{ReplyPromise, SameButValues}
use Rattle.printing.proofs.PromiseLaws.{settled, promise_prefix}
use Rattle.printing.proofs.Starred.{lines_of_e, lines_of_e_lem, lines_of_d, lines_of_d_lem, lines_of_j, lines_of_j_lem}

-- Two replies, with their buffers, that meet the promise for one file and one buffer are equal but for the right list whose values they show.
pub reply_settled : (file before : List ℕ) (n n' : ℕ) (after after' : List ℕ) → ReplyPromise file before n after → ReplyPromise file before n' after' →
    SameButValues file before n n' after after'
reply_settled = settled

-- The reply to the first 899 bytes of a file, or to more of them, is the reply to the file.
pub reply_from_prefix : (file before : List ℕ) (k n : ℕ) (after : List ℕ) → 899 ≤ k → ReplyPromise (take k file) before n after → ReplyPromise file before n after
reply_from_prefix = promise_prefix

-- E, a "no" and a refusal: the lines of each are these and no others.
pub reply_to_E : (text : List ℕ) → Lines (bytes_of E) text → text ≡ lines_of_e
reply_to_E = lines_of_e_lem

pub reply_to_D : (text : List ℕ) → Lines (bytes_of D) text → text ≡ lines_of_d
reply_to_D = lines_of_d_lem

pub reply_to_J : (text : List ℕ) → Lines (bytes_of J) text → text ≡ lines_of_j
reply_to_J = lines_of_j_lem
