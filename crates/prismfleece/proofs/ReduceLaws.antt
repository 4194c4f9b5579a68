-- The number of each reply of reducing fits.
use mathlib.Core.Path.{◌≡◌, refl, subst}
use mathlib.Core.List.{List}
use mathlib.Core.Option.{Option, some, none}
use Prim.Native.Nat.{ℕ, ◌≤◌}
use native.Mathlib.Omega.{arith}
use native.Mathlib.Decide.{dec_lt}
use lib.ListN.{length}
use Rattle.std.specs.Prelude.{Result}
use Rattle.model.specs.Case.{File}
use Rattle.model.specs.Format.{Reading, read_file, first_variable}
use Rattle.model.specs.Replies.{HeardOf}
use Rattle.theory.proofs.Reduced.{reduced_fits}
use Rattle.refusals.specs.declared.Refusal.{Refusal}
use Rattle.refusals.specs.Numbers.{fault_of}
use Rattle.refusals.proofs.Numbers.{number_up}
use Rattle.reducing.specs.Promise.{ReducePromise}
use Rattle.prismfleece.specs.Numbers.{bytes_number}
use Rattle.prismfleece.proofs.Told.{Fits, told, fits, refused_fits, variable_fits}

module _ (file before : List ℕ) (reply : Result ℕ Refusal) (after : List ℕ) (p : ReducePromise file before reply after) where
  read : (f : File) → read_file file ≡ Reading.accepted f → (v : Option ℕ) → first_variable f.cells ≡ v → Fits (told bytes_number reply)
  read f e (some at) i = fits bytes_number (p.variable f at e i).0 (variable_fits bytes_number file f e at i)
  read f e none i =
      let (bytes, t, k, same) = p.exists f e i in
      let l : length bytes ≤ 898 = subst (λ s. length s ≤ 898) t.3 (reduced_fits (HeardOf f) t.1 t.2 (record { events = t.4; reduces = t.5; few = k })) in
      elim (dec_lt (length before) (length bytes)) [
        | yes h ↦ fits bytes_number (p.short f bytes e t h).0 (number_up (fault_of 9), omega arith)
        | no h ↦ fits bytes_number (p.reduced f bytes e t (omega arith)).0 (omega arith)
      ]

  pub reduce_fits : Fits (told bytes_number reply)
  reduce_fits = go (read_file file) refl
    where
      go : (x : Reading) → read_file file ≡ x → Fits (told bytes_number reply)
      go (Reading.refused n q) e = fits bytes_number (p.refused n q e).0 (refused_fits bytes_number file n q e)
      go (Reading.accepted f) e = read f e (first_variable f.cells) refl
