-- Closing the classes: joins that every message of the cells asks for, until nothing is left to join.
-- Shut: a cell is alike the one that stands for its class; Asks: what one comparison answers; Moved: what joins keep; Settled, Unified: what is found; Bound, BindsAll, Settles, Unifies: the functions.
use Rattle.std.specs.Prelude.{◌≡◌, Bool, true, false, List, ◌↔◌, ℕ, ◌≤◌, ◌<◌, Option, Some, None, Result, Ok, Err}
use Rattle.model.specs.Message.{Message}
use Rattle.model.specs.Case.{VA, Table, Reads}
use Rattle.theory.specs.Cells.{class_at}
use Rattle.theory.specs.Classes.{Alike, Closed, Sat}
use Rattle.classes.specs.declared.alike.Diff.{Diff}
use Rattle.classes.specs.declared.alike.Diff.TheVariants as diff
use Rattle.classes.specs.declared.closing.Clash.{Clash}
use Rattle.classes.specs.Kept.{Kept, class_count, Unmet, Never, Solved}

-- The cell c, if it is no variable, is alike the one that stands for its class.
abbrev pub Shut : Table → (ℕ → ℕ) → ℕ → Type 0
Shut T cls c = (T c ≡ VA → ⊥) → Alike cls (T c) (T (cls c))

-- What the comparison of the cell c with the one that stands for its class answers: nothing is left to join here; no messages satisfy the classes;
-- or two cells of different classes that all messages that satisfy the classes make equal.
abbrev pub Asks : ℕ → Table → List ℕ → ℕ → Diff → Type 0
Asks n T rep c diff.Same = Shut T (class_at rep) c
Asks n T rep c diff.Clash = Unmet T (class_at rep)
Asks n T rep c (diff.Parts x y) =
    (x < n) × (y < n) × (class_at rep x ≡ class_at rep y → ⊥) × ((m : ℕ → Message) → Reads T m m → Sat (class_at rep) m → m x ≡ m y)

-- The classes out, of which P holds, are those of rep after joins that all messages that satisfy rep ask for; changed says whether there were any.
pub record Moved (T : Table) (P : List ℕ → Type 0) (rep out : List ℕ) (changed : Bool) : Type 0 where
  pub holds : P out
  pub sat : (m : ℕ → Message) → Reads T m m → Sat (class_at rep) m ↔ Sat (class_at out) m
  pub most : class_count out ≤ class_count rep
  pub fewer : changed ≡ true → class_count out < class_count rep
  pub still : changed ≡ false → out ≡ rep

-- A binding step at the cell c, which makes the classes out of rep: whether it joined, or a clash.
abbrev pub Bound : ℕ → Table → List ℕ → ℕ → List ℕ → Result Bool Clash → Type 0
Bound n T rep c out (Ok changed) = Moved T (Kept n T) rep out changed × (changed ≡ false → Shut T (class_at rep) c)
Bound n T rep c out (Err e) = Unmet T (class_at rep)

-- A binding step at each of the cells below upto.
abbrev pub BindsAll : ℕ → Table → List ℕ → ℕ → List ℕ → Result Bool Clash → Type 0
BindsAll n T rep upto out (Ok changed) = Moved T (Kept n T) rep out changed × (changed ≡ false → (c : ℕ) → c < upto → Shut T (class_at rep) c)
BindsAll n T rep upto out (Err e) = Unmet T (class_at rep)

-- Classes in which nothing is left to join, and which the same messages of the cells satisfy as rep.
pub record Settled (n : ℕ) (T : Table) (rep out : List ℕ) : Type 0 where
  pub kept : Kept n T out
  pub closed : Closed T (class_at out)
  pub sat : (m : ℕ → Message) → Reads T m m → Sat (class_at rep) m ↔ Sat (class_at out) m
  pub most : class_count out ≤ class_count rep

-- Settled classes; none, if no messages of the cells satisfy rep.
abbrev pub Settles : ℕ → Table → List ℕ → Option (List ℕ) → Type 0
Settles n T rep (Some out) = Settled n T rep out
Settles n T rep None = Unmet T (class_at rep)

-- Solved classes that exactly those messages satisfy that satisfy rep and make a and b equal.
pub record Unified (n : ℕ) (T : Table) (rep : List ℕ) (a b : ℕ) (out : List ℕ) : Type 0 where
  pub solved : Solved n T out
  pub sat : (m : ℕ → Message) → Reads T m m → (Sat (class_at rep) m × (m a ≡ m b)) ↔ Sat (class_at out) m
  pub most : class_count out ≤ class_count rep
  pub fewer : (class_at rep a ≡ class_at rep b → ⊥) → class_count out < class_count rep

-- Unified classes; none, if no messages of the cells that satisfy rep make a and b equal.
abbrev pub Unifies : ℕ → Table → List ℕ → ℕ → ℕ → Option (List ℕ) → Type 0
Unifies n T rep a b (Some out) = Unified n T rep a b out
Unifies n T rep a b None = Never T (class_at rep) a b
