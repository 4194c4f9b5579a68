-- Marks of classes, laid at the front of a buffer.
use Rattle.std.specs.Prelude.{◌≡◌, List, ℕ, ◌<◌, length, get_or, drop}
use Rattle.theory.specs.Cells.{class_at}

-- The first n bytes of `after` are the marks of the cells' classes; the others are those of `before`.
pub record Lays (n : ℕ) (rep marks before after : List ℕ) : Type 0 where
  pub long : length after ≡ length before
  pub front : (c : ℕ) → c < n → get_or after c 0 ≡ get_or marks (class_at rep c) 0
  pub rest : drop n after ≡ drop n before
