-- The class array, a row of 129 bytes: the entry of a cell is the cell that stands for its class.
-- Kept: what every class array keeps; count, class_count: how many classes there are; Finite: the classes come round nowhere;
-- Unmet: no messages satisfy them; Never: none that do make two cells equal; Solved: what holds between two questions; Stands, Relabelled, Joined: one join.
use Rattle.std.specs.Prelude.{◌≡◌, Bool, cond, List, ◌↔◌, ℕ, zero, suc, ◌+◌, ◌≤◌, ◌<◌, eqb, length}
use Rattle.model.specs.Message.{Message}
use Rattle.model.specs.Case.{AT, VA, Table, Reads}
use Rattle.theory.specs.Cells.{class_at}
use Rattle.theory.specs.Classes.{Closed, Sat, Ranked, Reps, Relabels}

-- What every class array over a table of n cells keeps: representatives as in Reps, one class for the cells of one name, and no class of the table's cells is
-- named by a cell beyond them.
pub record Kept (n : ℕ) (T : Table) (rep : List ℕ) : Type 0 where
  pub long : length rep ≡ 129
  pub reps : Reps T (class_at rep)
  pub names : (c d k : ℕ) → T c ≡ AT k → T d ≡ AT k → class_at rep c ≡ class_at rep d
  pub inside : (c : ℕ) → c < n → class_at rep c < n

-- How many numbers below n pass the test.
unfoldable pub count : (ℕ → Bool) → ℕ → ℕ
count test zero = 0
count test (suc n) = cond (test n) 1 0 + count test n

-- The number of classes: of the cells that stand for their class.
abbrev pub class_count : List ℕ → ℕ
class_count rep = count (λ c. eqb (class_at rep c) c) 129

-- The table of the classes comes round nowhere.
abbrev pub Finite : Table → (ℕ → ℕ) → Type 0
Finite T rep = (rank : ℕ → ℕ) × Ranked (λ c. T (rep c)) rank

-- No messages of the cells satisfy the classes.
abbrev pub Unmet : Table → (ℕ → ℕ) → Type 0
Unmet T rep = (m : ℕ → Message) → Reads T m m → Sat rep m → ⊥

-- No messages of the cells that satisfy the classes make c and d equal.
abbrev pub Never : Table → (ℕ → ℕ) → ℕ → ℕ → Type 0
Never T rep c d = (m : ℕ → Message) → Reads T m m → Sat rep m → m c ≡ m d → ⊥

-- A class array in which nothing is left to join, and which comes round nowhere.
pub record Solved (n : ℕ) (T : Table) (rep : List ℕ) : Type 0 where
  pub kept : Kept n T rep
  pub closed : Closed T (class_at rep)
  pub finite : Finite T (class_at rep)

-- The cell r may stand for what o stood for: if o is no variable, r is none and is not above o.
abbrev pub Stands : Table → ℕ → ℕ → Type 0
Stands T r o = (T o ≡ VA → ⊥) → (T r ≡ VA → ⊥) × (r ≤ o)

-- The row out is rep with r for every o.
pub record Relabelled (rep : List ℕ) (o r : ℕ) (out : List ℕ) : Type 0 where
  pub long : length out ≡ length rep
  pub names : Relabels (class_at rep) o r (class_at out)

-- The classes out are those of rep with the classes of a and b in one.
pub record Joined (n : ℕ) (T : Table) (rep : List ℕ) (a b : ℕ) (out : List ℕ) : Type 0 where
  pub kept : Kept n T out
  pub sat : (m : ℕ → Message) → Sat (class_at out) m ↔ (Sat (class_at rep) m × (m a ≡ m b))
  pub most : class_count out ≤ class_count rep
  pub fewer : (class_at rep a ≡ class_at rep b → ⊥) → class_count out < class_count rep
