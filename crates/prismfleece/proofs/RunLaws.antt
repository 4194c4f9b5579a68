-- The number of each reply of a run fits; and that the list check calls a run's list right.
use mathlib.Core.Path.{◌≡◌, refl, sym, ◌∙◌, ap, subst}
use mathlib.Core.Logic.{inl, inr}
use mathlib.Core.List.{List}
use Prim.Native.Nat.{ℕ}
use native.Mathlib.Omega.{arith}
use native.Mathlib.Decide.{dec_lt}
use lib.ListN.{length, take}
use Rattle.std.specs.Prelude.{Bool, true, Option, Some, Result, Ok}
use Rattle.model.specs.Case.{File}
use Rattle.model.specs.Format.{Reading, read_file}
use Rattle.model.specs.Replies.{RightListed}
use Rattle.model.proofs.Read.{clash}
use Rattle.model.proofs.Stored.{laid_front}
use Rattle.checking.specs.Promise.{CheckPromise}
use Rattle.refusals.specs.declared.Refusal.{Refusal}
use Rattle.running.specs.Promise.{RunPromise}
use Rattle.prismfleece.specs.Numbers.{list_number}
use Rattle.prismfleece.proofs.Told.{Fits, told, fits, refused_fits, few, cells_fit}

module _ (file before : List ℕ) (reply : Result (Option ℕ) Refusal) (after : List ℕ) (p : RunPromise file before reply after) where
  read : (f : File) → read_file file ≡ Reading.accepted f → Fits (told list_number reply)
  read f e = elim (dec_lt (length before) (length f.cells)) [
    | yes h ↦ fits list_number (p.short f e h).0 (cells_fit list_number file f e 9)
    | no h ↦ elim (p.replied f (record { read = e; room = omega arith })) [ inl i ↦ fits list_number i (omega arith) | inr i ↦ (let k = few file f e in fits list_number i (omega arith)) ]
  ]

  pub run_fits : Fits (told list_number reply)
  run_fits = go (read_file file) refl
    where
      go : (x : Reading) → read_file file ≡ x → Fits (told list_number reply)
      go (Reading.refused n q) e = fits list_number (p.refused n q e).0 (refused_fits list_number file n q e)
      go (Reading.accepted f) e = read f e

-- The list at the front of the buffer is the right list of the promise, so the list check calls it right.
pub shown_checked : {file before after : List ℕ} {n : ℕ} {judged : Result Bool Refusal} → RunPromise file before (Ok (Some n)) after → CheckPromise file (take n after) judged → judged ≡ Ok true
shown_checked {file} {before} {after} {n} {judged} p j = go (read_file file) refl
  where
    go : (x : Reading) → read_file file ≡ x → judged ≡ Ok true
    go (Reading.refused m q) e = let z = (p.refused m q e).0 in clash (cc)
    go (Reading.accepted f) e = elim (dec_lt (length before) (length f.cells)) [
      | yes h ↦ (let z = (p.short f e h).0 in clash (cc))
      | no h ↦ elim (p.replied f (record { read = e; room = omega arith })) [
        | inl z ↦ clash (cc)
        | inr z ↦
            (let (list, right, k) = p.yes f (record { read = e; room = omega arith }) z in
            let i : length list ≡ n = right.0.size ∙ cc in
            j.right f e (subst (RightListed f) (sym (ap (take n) k ∙ laid_front list before n i)) right))
      ]
    ]
