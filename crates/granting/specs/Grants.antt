-- What may be seen and built before a position, if keys are granted, as marks on the cells that stand for their class. The marks may be too many.
-- Still: marks at which no rule adds one; More: how marks grow; Rounded: one round of the rules; Grants: rounds until nothing changes;
-- GrantRows: the rows that are kept from position to position.
use Rattle.std.specs.Prelude.{◌≡◌, Bool, true, false, List, ℕ, ◌+◌, ◌<◌}
use Rattle.model.specs.Case.{Table}
use Rattle.theory.specs.Cells.{On}
use Rattle.knowledge.specs.Knowledge.{MarkRow}
use Rattle.knowledge.specs.Sweeps.{Newly, Shows, missing}
use Rattle.wants.specs.Starts.{BareTo}
use Rattle.wants.specs.Sets.{NeedRow}
use Rattle.granting.specs.declared.grants.Grant.{Grant}
use Rattle.granting.specs.Meets.{Earns}
use Rattle.granting.specs.Leaks.{Tight}

-- The marks s of cells that may be seen and b of those that may be built before p: no rule adds one. The row `need` has the keys that are not built, and their parts.
pub record Still (T : Table) (n : ℕ) (rep run : List ℕ) (p : ℕ) (s b : List ℕ) : Type 0 where
  pub still : (c : ℕ) → c < n → (Newly T rep s b c → ⊥) × (Shows T rep s b c → ⊥)
  pub need : List ℕ
  pub needs : NeedRow T rep s b need
  pub earns : (c : ℕ) → c < n → Earns T n rep need s b c → ⊥
  pub tight : Tight T n rep run p s

-- The marks s' and b' have those of s and b.
pub record More (rep s b s' b' : List ℕ) : Type 0 where
  pub seen_marked : MarkRow rep s'
  pub built_marked : MarkRow rep b'
  pub seen_kept : (c : ℕ) → On s c → On s' c
  pub built_kept : (c : ℕ) → On b c → On b' c

-- One round, from the marks s and b to s' and b'.
pub record Rounded (T : Table) (n : ℕ) (rep run : List ℕ) (p : ℕ) (s b s' b' : List ℕ) (changed : Bool) : Type 0 where
  pub more : More rep s b s' b'
  pub still : changed ≡ false → Still T n rep run p s' b'
  pub moved : changed ≡ true → missing s' + missing b' < missing s + missing b

-- Rounds until nothing changes.
pub record Grants (T : Table) (n : ℕ) (rep run : List ℕ) (p : ℕ) (s b s' b' : List ℕ) : Type 0 where
  pub more : More rep s b s' b'
  pub still : Still T n rep run p s' b'

-- The rows of what is granted. If calm, no rule adds a mark at any position, and the bare cells are those of the marks.
pub record GrantRows (T : Table) (n : ℕ) (rep run : List ℕ) (g : Grant) : Type 0 where
  pub seen_marked : MarkRow rep g.seen
  pub built_marked : MarkRow rep g.built
  pub still : g.calm ≡ true → (p : ℕ) → Still T n rep run p g.seen g.built
  pub bares : g.calm ≡ true → BareTo T rep g.seen g.built g.bare n
