-- Marks on the cells of a table whose variables are bound or put to his own name: `sh c` is the cell that c stands for.
use Rattle.std.specs.Prelude.{◌≡◌, ℕ}
use Rattle.model.specs.Message.{Message, Built}
use Rattle.model.specs.Case.{AT, VA, Table}
use Rattle.theory.specs.Cells.{Makes, Opening}

-- D is closed under the rules as far as the table's cells go. A free variable stands for something that can be built from nothing.
pub record Closes (sh : Table) (D : ℕ → Type 0) : Type 0 where
  pub free : (c : ℕ) → sh c ≡ VA → D c
  pub zero : (c : ℕ) → sh c ≡ AT 0 → D c
  pub makes : (c a b : ℕ) → Makes (sh c) a b → D a → D b → D c
  pub opens : (c k d : ℕ) → Opening sh c k d → D c → D k → D d

-- D holds the known cells, is closed, goes by the message, and holds nothing that is not built.
pub record Marks (sh : Table) (m : ℕ → Message) (K : Message → Type 0) (D : ℕ → Type 0) : Type 0 where
  pub closes : Closes sh D
  pub knows : (x : Message) → K x → (c : ℕ) × D c × (x ≡ m c)
  pub sound : (c : ℕ) → D c → Built K (m c)
  pub same : (c d : ℕ) → m c ≡ m d → D c → D d
