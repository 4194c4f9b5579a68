-- The steps on cells, and what the tables of the proofs keep.
use Rattle.std.specs.Prelude.{◌≡◌, List, ℕ, ◌≤◌, ◌<◌, min, get_or}
use Rattle.model.specs.Message.{One, App, Two, Message}
use Rattle.model.specs.Case.{Cell, AT, ONE, TWO, PR, SE, Table, Reads, Lower}
use Rattle.model.specs.Stored.{table_in, event_in, aim}

-- `Composes g`: a message of the kind g is given by its part.
pub data Composes : One → Type 0 where
  apps : {f : ℕ} → Composes (App f)

-- `Makes k a b`: what the cell k shows is made of what the cells a and b show.
pub data Makes : Cell → ℕ → ℕ → Type 0 where
  ones : {g : One} {a : ℕ} → Composes g → Makes (ONE g a) a a
  twos : {h : Two} {l r : ℕ} → Makes (TWO h l r) l r

-- `Opening S c k d`: what the cells c and k show gives what d shows.
pub data Opening (S : Table) (c : ℕ) : ℕ → ℕ → Type 0 where
  lefts : {l r : ℕ} → S c ≡ PR l r → Opening S c c l
  rights : {l r : ℕ} → S c ≡ PR l r → Opening S c c r
  bodies : {b k : ℕ} → S c ≡ SE b k → Opening S c k b

-- What the table of an accepted file keeps, with the cells beyond the file's: 128 shows his own name.
pub record Formed (T : Table) : Type 0 where
  pub lower : Lower T
  pub name : T 128 ≡ AT 0

-- `Grounds T rep ν τ`: each cell c shows τ c, by the cell that stands for its class, with each free class y put to ν y.
abbrev pub Grounds : Table → (ℕ → ℕ) → (ℕ → Message) → (ℕ → Message) → Type 0
Grounds T rep ν τ = Reads (λ c. T (rep c)) (λ c. ν (rep c)) τ

-- What the words of a table of n cells keep, as the crates hand them to each other.
pub record TableWords (n : ℕ) (words : List ℕ) : Type 0 where
  pub few : n ≤ 128
  pub lower : Lower (table_in words)
  pub beyond : (c : ℕ) → n ≤ c → table_in words c ≡ AT 0

-- What the words of a run of m events keep over n cells.
pub record RunWords (n : ℕ) (words : List ℕ) (m : ℕ) : Type 0 where
  pub few : m ≤ 128
  pub below : (p : ℕ) → p < m → aim (event_in (get_or words p 0)) < n

-- The classes that lie in a row of 129 bytes: the entry of a cell is the cell that stands for its class. The cell 128, and all beyond it, show his own name.
abbrev pub class_at : List ℕ → ℕ → ℕ
class_at rep c = get_or rep (min c 128) 0

-- The mark of c lies in a row of marks.
abbrev pub On : List ℕ → ℕ → Type 0
On marks c = get_or marks c 0 ≡ 1
