-- What follows from the promise alone: the reduced file is accepted, lets him build the same, is reduced to itself, and is one for all files that let him build the same.
use mathlib.Core.Path.{◌≡◌, refl, sym, ◌∙◌, ap, subst}
use mathlib.Core.Logic.{◌↔◌}
use mathlib.Core.List.{List}
use mathlib.Core.Option.{Option, some, none}
use Prim.Native.Nat.{ℕ, ◌+◌, ◌*◌, ◌≤◌}
use native.Mathlib.Omega.{arith}
use native.Mathlib.Decide.{dec_lt}
use lib.ListN.{length, take, drop}
use lib.Seq.{take-append_seam}
use Rattle.std.specs.Prelude.{Result, Ok}
use Rattle.refusals.specs.declared.Refusal.{Refusal}
use Rattle.model.specs.Case.{File}
use Rattle.model.specs.Format.{Reading, read_file, file_bytes, first_variable}
use Rattle.model.specs.Replies.{HeardOf, ReducedTo, laid}
use Rattle.model.proofs.Read.{clash}
use Rattle.model.proofs.Variables.{no_variable}
use Rattle.theory.proofs.Reduced.{reduced_solid, reduced_read, reduced_length, reduced_fits, reduced_one, one_reduced}
use Rattle.reducing.specs.Promise.{SameBuilt, ReducePromise}
use Rattle.reducing.proofs.PromiseLaws.{ReducedBy, reduced_to, reduced_only}

-- The bytes are those of the reduced file g.
record ReducedAs (f : File) (bytes : List ℕ) : Type 0 where
  pub g : File
  pub by : ReducedBy f g
  pub written : file_bytes g ≡ bytes

module _ {file before after : List ℕ} {answer : Result ℕ Refusal} (p : ReducePromise file before answer after) {f : File} (e : read_file file ≡ Reading.accepted f) where
  -- A file without variables is reduced.
  reduces : first_variable f.cells ≡ none → (g : File) × ReducedBy f g
  reduces v =
      let x = p.exists f e v in
      let t = x.1 in
      (t.1, record { free = v; learnt = t.2; reduction = record { events = t.4; reduces = t.5; few = x.2 }; same = x.3 })

  module _ {b : List ℕ} (t : ReducedTo f b) where
    reduced_as : ReducedAs f b
    reduced_as = (let x = reduces t.0 in record { g = x.0; by = x.1; written = reduced_only x.1 t })

    as_read : read_file b ≡ Reading.accepted reduced_as.g
    as_read =
        let r = reduced_as.by in
        sym (ap read_file reduced_as.written) ∙ reduced_read (HeardOf f) reduced_as.g r.learnt r.reduction

    as_free : first_variable reduced_as.g.cells ≡ none
    as_free = let r = reduced_as.by in (no_variable reduced_as.g.cells).1 (reduced_solid (HeardOf f) reduced_as.g r.learnt r.reduction)

    pub promised_accepted : (g : File) × (read_file b ≡ Reading.accepted g) × (first_variable g.cells ≡ none) × SameBuilt g f
    promised_accepted = (reduced_as.g, as_read, as_free, reduced_as.by.same)

    pub promised_length : (g : File) × (read_file b ≡ Reading.accepted g) × (length b ≡ 4 * length g.cells + 3 * length g.events + 2) × (length b ≤ 898)
    promised_length =
        let r = reduced_as.by in (
          reduced_as.g,
          as_read,
          sym (ap length reduced_as.written) ∙ reduced_length (HeardOf f) reduced_as.g r.learnt r.reduction,
          subst (λ b. length b ≤ 898) reduced_as.written (reduced_fits (HeardOf f) reduced_as.g r.learnt r.reduction),
        )

  -- ---- what is written
  bytes_written : {n : ℕ} → answer ≡ Ok n → (b : List ℕ) → ReducedTo f b → ReducedTo f (take n after) × (n ≡ length (take n after))
  bytes_written {n} a b t = elim (dec_lt (length before) (length b)) [
    | yes h ↦ (let z = (p.short f b e t h).0 in clash (cc))
    | no h ↦ (
        let (i, j) = p.reduced f b e t (omega arith) in
        let k : n ≡ length b = cc (a, i) in
        let l : take n after ≡ b = ap (λ m. take m after) k ∙ (ap (take (length b)) j ∙ take-append_seam b (drop (length b) before)) in
        (subst (ReducedTo f) (sym l) t, k ∙ sym (ap length l)))
  ]

  pub promised_written : {n : ℕ} → answer ≡ Ok n → ReducedTo f (take n after) × (n ≡ length (take n after))
  promised_written {n} a = by_variable (first_variable f.cells) refl
    where
      by_variable : (o : Option ℕ) → first_variable f.cells ≡ o → ReducedTo f (take n after) × (n ≡ length (take n after))
      by_variable (some at) v = (let z = (p.variable f at e v).0 in clash (cc))
      by_variable none v = (let x = p.exists f e v in bytes_written a x.0 x.1)

-- A reply with a reduced file is one to an accepted file.
pub promised_file : {file before after : List ℕ} {answer : Result ℕ Refusal} → ReducePromise file before answer after → {n : ℕ} → answer ≡ Ok n →
    (f : File) × (read_file file ≡ Reading.accepted f)
promised_file {file = file} {answer = answer} p {n} a = by_reading (read_file file) refl
  where
    by_reading : (x : Reading) → read_file file ≡ x → (f : File) × (read_file file ≡ Reading.accepted f)
    by_reading (Reading.refused m k) e = (let z = (p.refused m k e).0 in clash (cc))
    by_reading (Reading.accepted f) e = (f, e)

-- ---- two files
module _ {f f' : File} {b b' : List ℕ} (r : ReducedAs f b) (r' : ReducedAs f' b') where
  as_one : SameBuilt f f' → b ≡ b'
  as_one same =
      sym r.written ∙ (reduced_one (HeardOf f) (HeardOf f') r.g r'.g r.by.learnt r'.by.learnt r.by.reduction r'.by.reduction same ∙ r'.written)

  one_as : b ≡ b' → SameBuilt f f'
  one_as i =
      one_reduced (HeardOf f) (HeardOf f') r.g r'.g r.by.learnt r'.by.learnt r.by.reduction r'.by.reduction r.by.same r'.by.same
      (r.written ∙ (i ∙ sym r'.written))

pub promised_canonical : {file file' before before' after after' : List ℕ} {answer answer' : Result ℕ Refusal} → ReducePromise file before answer after → ReducePromise file' before' answer' after' →
    {f f' : File} → read_file file ≡ Reading.accepted f → read_file file' ≡ Reading.accepted f' → {b b' : List ℕ} → ReducedTo f b → ReducedTo f' b' → SameBuilt f f' ↔ (b ≡ b')
promised_canonical p q e e' t t' = (as_one (reduced_as p e t) (reduced_as q e' t'), one_as (reduced_as p e t) (reduced_as q e' t'))

pub promised_again : {file before after before' after' b : List ℕ} {answer answer' : Result ℕ Refusal} {f : File} → ReducePromise file before answer after → read_file file ≡ Reading.accepted f →
    ReducedTo f b → ReducePromise b before' answer' after' → length b ≤ length before' → (answer' ≡ Ok (length b)) × (after' ≡ laid b before')
promised_again {b = b} {f = f} p e t q l =
    let (g, read, free, same) = promised_accepted p e t in
    let (h, r) = reduces q read free in
    let i : file_bytes h ≡ b = as_one (record { g = h; by = r; written = refl }) (reduced_as p e t) same in
    q.reduced g b read (subst (ReducedTo g) i (reduced_to r)) l
