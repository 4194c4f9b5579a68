-- What he sees and can build before a position of a run, as marks on the cells that stand for their class.
-- ClassRow: what a class array keeps; MarkRow: what a row of marks keeps; Learns: one mark more; Starts: the marks to start from; Opened: the marks that are found.
use Rattle.std.specs.Prelude.{◌≡◌, ◌↔◌, ◌⊎◌, List, ℕ, ◌≤◌, get_or}
use Rattle.model.specs.Case.{Table, Run, Learnt}
use Rattle.theory.specs.Cells.{class_at, On}
use Rattle.theory.specs.Level.{Mark, seen, built}
use Rattle.knowledge.specs.declared.Marks.{Marks}

-- What the class array of a table of n cells keeps: who stands for a class stands for itself, and the cells from n on are in the class of 128, his own name.
pub record ClassRow (n : ℕ) (rep : List ℕ) : Type 0 where
  pub idem : (c : ℕ) → class_at rep (class_at rep c) ≡ class_at rep c
  pub low : (c : ℕ) → class_at rep c ≤ 128
  pub beyond : (c : ℕ) → n ≤ c → class_at rep c ≡ class_at rep 128

-- A row of marks: each is 0 or 1, and 1 only on a cell that stands for its class.
pub record MarkRow (rep marks : List ℕ) : Type 0 where
  pub bits : (c : ℕ) → get_or marks c 0 ≤ 1
  pub stand : (c : ℕ) → On marks c → class_at rep c ≡ c

-- The marks r are those of `marks` and the one of the class of c.
pub record Learns (rep marks : List ℕ) (c : ℕ) (r : List ℕ) : Type 0 where
  pub marked : MarkRow rep r
  pub kept : (d : ℕ) → On marks d → On r d
  pub learnt : On r (class_at rep c)
  pub only : (d : ℕ) → On r d → On marks d ⊎ (d ≡ class_at rep c)

-- Marks to start from: they hold what is learnt before position p, and only what is seen there.
pub record Starts (T : Table) (rep : List ℕ) (ev : Run) (p : ℕ) (marks : List ℕ) : Type 0 where
  pub low : (c : ℕ) → Learnt ev p c → On marks (class_at rep c)
  pub high : (c : ℕ) → On marks c → Mark T (class_at rep) ev p seen c

-- The marks r are exactly what is seen and what is built, at each position of each run at which one may start from the marks `start`.
pub record Opened (T : Table) (rep start : List ℕ) (r : Marks) : Type 0 where
  pub seen : (ev : Run) (p : ℕ) → Starts T rep ev p start → (c : ℕ) → On r.seen (class_at rep c) ↔ Mark T (class_at rep) ev p seen c
  pub built : (ev : Run) (p : ℕ) → Starts T rep ev p start → (c : ℕ) → On r.built (class_at rep c) ↔ Mark T (class_at rep) ev p built c
  pub seen_marked : MarkRow rep r.seen
  pub built_marked : MarkRow rep r.built
