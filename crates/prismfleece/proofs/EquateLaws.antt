-- The number of each reply of equating fits.
use mathlib.Core.Path.{◌≡◌, refl}
use mathlib.Core.Logic.{inl, inr}
use mathlib.Core.List.{List}
use Prim.Native.Nat.{ℕ}
use native.Mathlib.Omega.{arith}
use native.Mathlib.Decide.{dec_lt}
use lib.ListN.{length}
use Rattle.std.specs.Prelude.{Option, Result}
use Rattle.model.specs.Case.{File}
use Rattle.model.specs.Format.{Reading, read_file}
use Rattle.refusals.specs.declared.Refusal.{Refusal}
use Rattle.equating.specs.Promise.{EquatePromise, Asked}
use Rattle.prismfleece.specs.Numbers.{list_number}
use Rattle.prismfleece.proofs.Told.{Fits, told, fits, refused_fits, few, cells_fit}

module _ (file : List ℕ) (a b : ℕ) (before : List ℕ) (reply : Result (Option ℕ) Refusal) (after : List ℕ) (p : EquatePromise file a b before reply after) where
  module _ (f : File) (e : read_file file ≡ Reading.accepted f) where
    asked : Asked file a b f → Fits (told list_number reply)
    asked q = elim (dec_lt (length before) (length f.cells)) [
      | yes h ↦ fits list_number (p.short f q h).0 (cells_fit list_number file f e 9)
      | no h ↦ elim (p.replied f (record { asked = q; room = omega arith })) [ inl i ↦ fits list_number i (omega arith) | inr i ↦ (let k = few file f e in fits list_number i (omega arith)) ]
    ]

    read : Fits (told list_number reply)
    read = elim (dec_lt a (length f.cells)) [
      | no h ↦ fits list_number (p.outside f e (inl (omega arith))).0 (cells_fit list_number file f e 5)
      | yes h ↦ elim (dec_lt b (length f.cells)) [
        | no g ↦ fits list_number (p.outside f e (inr (omega arith))).0 (cells_fit list_number file f e 5)
        | yes g ↦ asked (record { read = e; first = h; second = g })
      ]
    ]

  pub equate_fits : Fits (told list_number reply)
  equate_fits = go (read_file file) refl
    where
      go : (x : Reading) → read_file file ≡ x → Fits (told list_number reply)
      go (Reading.refused n q) e = fits list_number (p.refused n q e).0 (refused_fits list_number file n q e)
      go (Reading.accepted f) e = read f e
