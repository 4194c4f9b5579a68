-- The classes of a list that is followed, entry by entry.
use mathlib.Core.Path.{◌≡◌}
use mathlib.Core.List.{List}
use mathlib.Core.Logic.{◌↔◌}
use Prim.Native.Nat.{ℕ, ◌+◌, ◌<◌}
use native.Mathlib.Omega.{arith}
use lib.ListN.{get_or}
use borrow.Author.Count.{below_more}
use Rattle.model.specs.Message.{Message}
use Rattle.model.specs.Case.{VA, Table, Reads}
use Rattle.theory.specs.Cells.{class_at}
use Rattle.theory.specs.Classes.{Sat}
use Rattle.classes.specs.Kept.{Kept, Joined}
use Rattle.classes.specs.Twins.{Start}
use Rattle.checking.specs.Follow.{Binds, Gathers}

-- ---- one entry

module _ (n : ℕ) (T : Table) (rep : List ℕ) (c x : ℕ) where
  pub binds_join : (out : List ℕ) → T c ≡ VA → Joined n T rep c x out → Binds n T rep c x out
  binds_join out v j = record { kept = j.kept; sat = λ m. (λ (s, h). (j.sat m).1 (s, h v), λ s. (let (t, h) = (j.sat m).0 s in (t, λ _. h))) }

-- ---- the entries below c

-- Classes that exactly those messages satisfy that follow the list below c.
pub record Gathering (n : ℕ) (T : Table) (list rep : List ℕ) (c : ℕ) : Type 0 where
  pub kept : Kept n T rep
  pub sat : (m : ℕ → Message) → Reads T m m → ((v : ℕ) → v < c → T v ≡ VA → m v ≡ m (get_or list v 0)) ↔ Sat (class_at rep) m

module _ (n : ℕ) (T : Table) (list : List ℕ) where
  pub gathering_none : (rep : List ℕ) → Start n T rep → Gathering n T list rep 0
  gathering_none rep w = record { kept = w.solved.kept; sat = λ m mr. (λ _. w.met m mr, λ _ v h. absurd (omega arith)) }

  module _ (rep : List ℕ) (c : ℕ) (w : Gathering n T list rep c) where
    pub gathering_more : (out : List ℕ) → Binds n T rep c (get_or list c 0) out → Gathering n T list out (c + 1)
    gathering_more out b = record {
      kept = b.kept;
      sat = λ m mr. (
        λ h. (b.sat m).0 ((w.sat m mr).0 (λ v l. h v (omega arith)), h c (omega arith)),
        λ s. (let (t, h) = (b.sat m).1 s in below_more (λ v. T v ≡ VA → m v ≡ m (get_or list v 0)) c ((w.sat m mr).1 t) h),
      );
    }

    -- All entries.
    pub gathering_all : ((v : ℕ) → T v ≡ VA → v < c) → Gathers n T list rep
    gathering_all all = record { kept = w.kept; sat = λ m mr. (λ h. (w.sat m mr).0 (λ v l. h v), λ s v i. (w.sat m mr).1 s v (all v i) i) }
