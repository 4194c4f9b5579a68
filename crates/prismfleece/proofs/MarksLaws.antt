-- The number of each reply of build marks fits.
use mathlib.Core.Path.{◌≡◌, refl}
use mathlib.Core.List.{List}
use mathlib.Core.Option.{Option, some, none}
use Prim.Native.Nat.{ℕ}
use native.Mathlib.Omega.{arith}
use native.Mathlib.Decide.{dec_lt}
use lib.ListN.{length}
use Rattle.std.specs.Prelude.{Result}
use Rattle.model.specs.Case.{File}
use Rattle.model.specs.Format.{Reading, read_file, first_variable}
use Rattle.refusals.specs.declared.Refusal.{Refusal}
use Rattle.building.specs.Promise.{MarksPromise}
use Rattle.prismfleece.specs.Numbers.{bytes_number}
use Rattle.prismfleece.proofs.Told.{Fits, told, fits, refused_fits, few, cells_fit, variable_fits}

module _ (file before : List ℕ) (reply : Result ℕ Refusal) (after : List ℕ) (p : MarksPromise file before reply after) where
  read : (f : File) → read_file file ≡ Reading.accepted f → (v : Option ℕ) → first_variable f.cells ≡ v → Fits (told bytes_number reply)
  read f e (some at) i = fits bytes_number (p.variable f at e i).0 (variable_fits bytes_number file f e at i)
  read f e none i = elim (dec_lt (length before) (length f.cells)) [
    | yes h ↦ fits bytes_number (p.short f e i h).0 (cells_fit bytes_number file f e 9)
    | no h ↦ (let k = few file f e in fits bytes_number (p.marks f e i (omega arith)).0 (omega arith))
  ]

  pub marks_fits : Fits (told bytes_number reply)
  marks_fits = go (read_file file) refl
    where
      go : (x : Reading) → read_file file ≡ x → Fits (told bytes_number reply)
      go (Reading.refused n q) e = fits bytes_number (p.refused n q e).0 (refused_fits bytes_number file n q e)
      go (Reading.accepted f) e = read f e (first_variable f.cells) refl
