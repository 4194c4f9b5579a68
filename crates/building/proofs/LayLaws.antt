-- The list of marks that lies at the front of a buffer.
use mathlib.Core.Path.{◌≡◌, sym, ◌∙◌, ap}
use mathlib.Core.List.{List, ◌++◌}
use Prim.Native.Nat.{ℕ, ◌≤◌, ◌<◌}
use native.Mathlib.Omega.{arith}
use lib.ListN.{length, get_or, take, drop, take-append-drop}
use lib.Seq.{length-take-le, get_or-take}
use Rattle.theory.specs.Cells.{class_at}
use Rattle.model.specs.Replies.{laid}
use Rattle.building.specs.Lay.{Lays}

-- The list that lies at the front.
module _ {n : ℕ} {rep marks before after : List ℕ} (l : Lays n rep marks before after) (room : n ≤ length before) where
  pub lays_length : length (take n after) ≡ n
  lays_length = length-take-le n after (omega (arith, l.long))

  pub lays_front : (c : ℕ) → c < n → get_or (take n after) c 0 ≡ get_or marks (class_at rep c) 0
  lays_front c h = get_or-take n after c 0 h ∙ l.front c h

  pub lays_laid : after ≡ laid (take n after) before
  lays_laid = sym (take-append-drop n after) ∙ ap (λ r. take n after ++ r) (l.rest ∙ ap (λ (i : ℕ). drop i before) (sym lays_length))
