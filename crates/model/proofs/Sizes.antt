-- How many the bytes of a file are.
use mathlib.Core.Path.{◌≡◌, refl}
use mathlib.Core.List.{List, [], ◌∷◌, ◌++◌}
use Prim.Native.Nat.{suc, ◌+◌, ◌*◌}
use native.Mathlib.Omega.{arith}
use lib.ListN.{length, length-append}
use Rattle.model.specs.Message.{App, Two}
use Rattle.model.specs.Case.{Cell, AT, VA, ONE, TWO, Event, MK, LN, File}
use Rattle.model.specs.Format.{End, mark, cell_bytes, event_bytes, joined, file_bytes}
use Rattle.model.proofs.Variables.{Solid}

-- ---- lengths

cells_length : (cells : List Cell) → Solid cells → length (joined cell_bytes cells) ≡ 4 * length cells
unfolding joined
cells_length [] solid = refl
cells_length (AT n ∷ cells) solid = let h = cells_length cells (λ c. solid (suc c)) in omega arith
cells_length (VA ∷ cells) solid = absurd (solid 0 refl)
cells_length (ONE (App f) a ∷ cells) solid = let h = cells_length cells (λ c. solid (suc c)) in omega arith
cells_length (TWO Two.Pair l r ∷ cells) solid = let h = cells_length cells (λ c. solid (suc c)) in omega arith
cells_length (TWO Two.Seal b k ∷ cells) solid = let h = cells_length cells (λ c. solid (suc c)) in omega arith

events_length : (events : List Event) → length (joined event_bytes events) ≡ 3 * length events
unfolding joined
events_length [] = refl
events_length (MK c ∷ events) = let h = events_length events in omega arith
events_length (LN c ∷ events) = let h = events_length events in omega arith

pub written_length : (f : File) → Solid f.cells → length (file_bytes f) ≡ 4 * length f.cells + 3 * length f.events + 2
written_length f solid =
    let a = cells_length f.cells solid in
    let b = events_length f.events in
    let c = length-append (joined event_bytes f.events) (mark End) in
    let d = length-append (joined cell_bytes f.cells) (joined event_bytes f.events ++ mark End) in
    omega arith
