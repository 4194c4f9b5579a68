-- Answers that tell whether something holds.
-- Decides: yes and no.
use Rattle.std.specs.Prelude.{◌≡◌, Bool, true, false}

-- The answer r tells whether P holds.
pub record Decides (r : Bool) (P : Type 0) : Type 0 where
  pub yes : r ≡ true → P
  pub no : r ≡ false → P → ⊥
