-- The number of each reply of the list check fits.
use mathlib.Core.Path.{◌≡◌, refl}
use mathlib.Core.Logic.{inl, inr}
use mathlib.Core.List.{List}
use Prim.Native.Nat.{ℕ}
use native.Mathlib.Omega.{arith}
use lib.ListN.{length}
use Rattle.std.specs.Prelude.{Bool, true, false, Result, Ok, Err}
use Rattle.model.specs.Case.{File}
use Rattle.model.specs.Format.{Reading, read_file}
use Rattle.model.proofs.Finite.{eq?}
use Rattle.model.proofs.Read.{clash}
use Rattle.model.specs.Replies.{FormOf}
use Rattle.refusals.specs.declared.Refusal.{Refusal}
use Rattle.refusals.specs.Numbers.{fault_of}
use Rattle.refusals.proofs.Numbers.{number_up}
use Rattle.checking.specs.Promise.{CheckPromise}
use Rattle.checking.proofs.PromiseLaws.{form?}
use Rattle.prismfleece.specs.Numbers.{right_number}
use Rattle.prismfleece.proofs.Told.{Fits, told, fits, refused_fits, few, cells_fit}

module _ (file list : List ℕ) (reply : Result Bool Refusal) (p : CheckPromise file list reply) where
  module _ (f : File) (e : read_file file ≡ Reading.accepted f) where
    -- In good form the reply is no refusal.
    formed : FormOf f list → Fits (told right_number reply)
    formed w = go reply refl
      where
        go : (r : Result Bool Refusal) → reply ≡ r → Fits (told right_number r)
        go (Err x) i = let z : reply ≡ Ok false = p.wrong f e w (λ right. (let y = p.right f e (w, right) in clash (cc))) in clash (cc)
        go (Ok false) i = omega arith
        go (Ok true) i = omega arith

    read : Fits (told right_number reply)
    read = elim (eq? (length list) (length f.cells)) [
      | inr s ↦ fits right_number (p.size f e s) (cells_fit right_number file f e 10)
      | inl s ↦ elim (form? f list s) [
        | inl (c, h, good, bad) ↦ (let k = few file f e in fits right_number (p.form f e s c h good bad) (number_up (fault_of 10), omega arith))
        | inr w ↦ formed w
      ]
    ]

  pub check_fits : Fits (told right_number reply)
  check_fits = go (read_file file) refl
    where
      go : (x : Reading) → read_file file ≡ x → Fits (told right_number reply)
      go (Reading.refused n q) e = fits right_number (p.refused n q e) (refused_fits right_number file n q e)
      go (Reading.accepted f) e = read f e
