-- The main theorems of this crate, each cited with its full statement.
use mathlib.Core.Path.{◌≡◌}
use mathlib.Core.Logic.{◌↔◌}
use mathlib.Core.List.{List}
use Prim.Native.Nat.{ℕ, ◌≤◌, ◌<◌}
use lib.ListN.{length, get_or}
use Rattle.model.specs.Message.{Built}
use Rattle.model.specs.Case.{File}
use Rattle.model.specs.Format.{Reading, read_file}
use Rattle.model.specs.Replies.{messages_of, HeardOf, MarkList, laid}
use Rattle.model.proofs.Stored.{mark_set, mark_unset}
use Rattle.std.specs.Prelude.{Result, Ok}
use Rattle.refusals.specs.declared.Refusal.{Refusal}
use Rattle.building.specs.Promise.{MarksPromise}
use Rattle.building.proofs.PromiseLaws.{promise_settled, promise_listed, promise_mark}

-- Two replies with their buffers that keep the promise for one file and one buffer before are equal.
pub build_marks_settled : {file before : List ℕ} {reply reply' : Result ℕ Refusal} {after after' : List ℕ} →
    MarksPromise file before reply after → MarksPromise file before reply' after' → (reply ≡ reply') × (after ≡ after')
build_marks_settled = promise_settled

-- Marks that are shown of an accepted file are those that are written, wherever they find room.
pub build_marks_listed : {file before : List ℕ} {reply : Result ℕ Refusal} {after : List ℕ} → MarksPromise file before reply after → (f : File) (list : List ℕ) →
    read_file file ≡ Reading.accepted f → MarkList f list → length list ≤ length before → (reply ≡ Ok (length list)) × (after ≡ laid list before)
build_marks_listed = promise_listed

-- A mark that is written is 1 exactly if the cell's message can be built from all that is learnt, and 0 exactly if it cannot.
pub build_mark_written : {file before : List ℕ} {n : ℕ} {after : List ℕ} → MarksPromise file before (Ok n) after → (f : File) → read_file file ≡ Reading.accepted f →
    (c : ℕ) → c < n → ((get_or after c 0 ≡ 1) ↔ Built (HeardOf f) (messages_of f c)) × ((get_or after c 0 ≡ 0) ↔ (Built (HeardOf f) (messages_of f c) → ⊥))
build_mark_written p f e c h = let m = promise_mark p f e c h in (mark_set m, mark_unset m)
