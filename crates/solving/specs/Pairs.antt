-- The pairs of one step, in the order in which they are tried.
-- Mirrored, Pairs: which pairs; place: their order; InRow: the next one of a row; NoPair, NextPair: the next one; ChildOf: the classes that the next pair gives.
use Rattle.std.specs.Prelude.{Option, Some, None, IfSome, IfNone, ◌≡◌, List, ℕ, ◌+◌, ◌*◌, ◌≤◌, ◌<◌}
use Rattle.model.specs.Message.{Message}
use Rattle.model.specs.Case.{Table, Reads}
use Rattle.theory.specs.Cells.{class_at, On}
use Rattle.theory.specs.Classes.{Sat}
use Rattle.theory.specs.Level.{Kin}
use Rattle.classes.specs.Kept.{Never, Solved, class_count}
use Rattle.granting.specs.declared.Place.{Place}
use Rattle.solving.specs.declared.search.Child.{Child}

-- The pair of c and d stands the other way round too, and earlier.
pub record Mirrored (want bare : List ℕ) (c d : ℕ) : Type 0 where
  pub lower : d < c
  pub wants : On want d
  pub bares : On bare c

-- The wanted cell c is to be made equal to the bare cell d.
pub record Pairs (T : Table) (rep want bare : List ℕ) (c d : ℕ) : Type 0 where
  pub wants : On want c
  pub bares : On bare d
  pub apart : class_at rep c ≡ class_at rep d → ⊥
  pub lone : Mirrored want bare c d → ⊥
  pub kin : Kin (T c) (T d)

-- The place of a pair: row by row.
abbrev pub place : ℕ → ℕ → ℕ
place c d = c * 128 + d

-- From the place `from` on up to the place `to`, no two cells below n are a pair.
abbrev pub NoPair : Table → ℕ → List ℕ → List ℕ → List ℕ → ℕ → ℕ → Type 0
NoPair T n rep want bare from to = (c d : ℕ) → c < n → d < n → from ≤ place c d → place c d < to → Pairs T rep want bare c d → ⊥

-- The first cell below n, from the cell `from` on, that is a pair with the cell c.
abbrev pub InRow : Table → ℕ → List ℕ → List ℕ → List ℕ → ℕ → ℕ → Option ℕ → Type 0
InRow T n rep want bare c from (Some d) = (from ≤ d) × (d < n) × Pairs T rep want bare c d × ((x : ℕ) → from ≤ x → x < d → Pairs T rep want bare c x → ⊥)
InRow T n rep want bare c from None = (x : ℕ) → from ≤ x → x < n → Pairs T rep want bare c x → ⊥

-- The first pair from the place `from` on.
abbrev pub NextPair : Table → ℕ → List ℕ → List ℕ → List ℕ → ℕ → Option Place → Type 0
NextPair T n rep want bare from (Some p) = (p.c < n) × (p.d < n) × (from ≤ place p.c p.d) × Pairs T rep want bare p.c p.d × NoPair T n rep want bare from (place p.c p.d)
NextPair T n rep want bare from None = (to : ℕ) → NoPair T n rep want bare from to

-- The first pair from the place `from` on that can be made equal, if there is one, with the classes that it gives, and the place after it.
pub record ChildOf (T : Table) (n : ℕ) (rep want bare : List ℕ) (from : ℕ) (r : Option Child) : Type 0 where
  pub none : IfNone r ((c d : ℕ) → c < n → d < n → from ≤ place c d → Pairs T rep want bare c d → Never T (class_at rep) c d)
  pub solved : IfSome r λ x. Solved n T x.rep
  pub fewer : IfSome r λ x. class_count x.rep < class_count rep
  pub later : IfSome r λ x. (from < place x.after.c x.after.d) × (x.after.c < n) × (x.after.d ≤ n)
  pub passed : IfSome r λ x. (c d : ℕ) → c < n → d < n → from ≤ place c d → place c d < place x.after.c x.after.d → Pairs T rep want bare c d →
      (m : ℕ → Message) → Reads T m m → Sat (class_at rep) m → m c ≡ m d → Sat (class_at x.rep) m
