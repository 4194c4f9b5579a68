-- The main theorems of this crate, each cited with its full statement.
use mathlib.Core.Path.{◌≡◌, refl}
use mathlib.Core.Logic.{◌↔◌}
use mathlib.Core.List.{List}
use mathlib.Core.Option.{none}
use Prim.Native.Nat.{ℕ, ◌+◌, ◌*◌, ◌≤◌}
use lib.ListN.{length, take}
use Rattle.std.specs.Prelude.{Result, Ok}
use Rattle.refusals.specs.declared.Refusal.{Refusal}
use Rattle.model.specs.Message.{Message, Bounded, Built}
use Rattle.model.specs.Case.{File}
use Rattle.model.specs.Format.{Reading, read_file, first_variable}
use Rattle.model.specs.Replies.{HeardOf, ReducedTo, laid}
use Rattle.model.proofs.Accepted.{Bytes}
use Rattle.model.proofs.Theorems.{same_of_the_format}
use Rattle.reducing.specs.Promise.{SameBuilt, ReducePromise}
use Rattle.reducing.proofs.PromiseLaws.{promise_settled}
use Rattle.reducing.proofs.PromisedLaws.{promised_accepted, promised_length, promised_written, promised_file, promised_canonical, promised_again}

-- Two replies with their buffers that keep the promise for one file and one buffer before are equal.
pub reduce_settled : {file before after after' : List ℕ} {reply reply' : Result ℕ Refusal} →
    ReducePromise file before reply after → ReducePromise file before reply' after' → (reply ≡ reply') × (after ≡ after')
reduce_settled = promise_settled

-- Where n bytes are written, they are those of the reduced file of what the file is read as.
pub reduce_written : {file before after : List ℕ} {n : ℕ} → ReducePromise file before (Ok n) after →
    (f : File) × (read_file file ≡ Reading.accepted f) × ReducedTo f (take n after) × (n ≡ length (take n after))
reduce_written p =
    let (f, e) = promised_file p refl in
    let (t, l) = promised_written p e refl in
    (f, e, t, l)

-- Two accepted files without variables let him build the same exactly if their reduced files are equal,
pub reduce_canonical : {file file' before before' after after' : List ℕ} {reply reply' : Result ℕ Refusal} → ReducePromise file before reply after → ReducePromise file' before' reply' after' →
    {f f' : File} → read_file file ≡ Reading.accepted f → read_file file' ≡ Reading.accepted f' → {b b' : List ℕ} → ReducedTo f b → ReducedTo f' b' → SameBuilt f f' ↔ (b ≡ b')
reduce_canonical = promised_canonical

-- so exactly if the bytes written for the one are those written for the other.
pub reduce_canonical_written : {file file' before before' after after' : List ℕ} {n n' : ℕ} →
    ReducePromise file before (Ok n) after → ReducePromise file' before' (Ok n') after' →
    {f f' : File} → read_file file ≡ Reading.accepted f → read_file file' ≡ Reading.accepted f' → SameBuilt f f' ↔ (take n after ≡ take n' after')
reduce_canonical_written p q e e' = promised_canonical p q e e' (promised_written p e refl).0 (promised_written q e' refl).0

-- It is enough to look at messages with names below 65,536 and functions below 256, those that files can show.
pub reduce_canonical_bounded : {file file' before before' after after' : List ℕ} {n n' : ℕ} → ReducePromise file before (Ok n) after → ReducePromise file' before' (Ok n') after' →
    Bytes file → Bytes file' → {f f' : File} → read_file file ≡ Reading.accepted f → read_file file' ≡ Reading.accepted f' →
    ((x : Message) → Bounded x → Built (HeardOf f) x ↔ Built (HeardOf f') x) ↔ (take n after ≡ take n' after')
reduce_canonical_bounded p q b b' {f} {f'} e e' =
    let same = reduce_canonical_written p q e e' in
    (λ h. same.0 (same_of_the_format _ _ f f' b b' e e' h), λ i x _. same.1 i x)

-- The reduced file is accepted, has no variables, and lets him build the same as its source.
pub reduced_accepted_again : {file before after b : List ℕ} {reply : Result ℕ Refusal} {f : File} → ReducePromise file before reply after → read_file file ≡ Reading.accepted f → ReducedTo f b →
    (g : File) × (read_file b ≡ Reading.accepted g) × (first_variable g.cells ≡ none) × SameBuilt g f
reduced_accepted_again p e t = promised_accepted p e t

-- Reducing it again gives it back.
pub reduce_again : {file before after before' after' b : List ℕ} {reply reply' : Result ℕ Refusal} {f : File} → ReducePromise file before reply after → read_file file ≡ Reading.accepted f →
    ReducedTo f b → ReducePromise b before' reply' after' → length b ≤ length before' → (reply' ≡ Ok (length b)) × (after' ≡ laid b before')
reduce_again = promised_again

-- Its length is four bytes for a cell, three for an event and two for the end, and at most 898.
pub reduce_length : {file before after b : List ℕ} {reply : Result ℕ Refusal} {f : File} → ReducePromise file before reply after → read_file file ≡ Reading.accepted f → ReducedTo f b →
    (g : File) × (read_file b ≡ Reading.accepted g) × (length b ≡ 4 * length g.cells + 3 * length g.events + 2) × (length b ≤ 898)
reduce_length p e t = promised_length p e t
