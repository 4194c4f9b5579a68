-- A way down from a cell that is not built, part by part, through cells that are not built.
-- Whole: what the marks of built cells keep; Below: one step; Walk: a way that is not yet at its end; LineRow: one that is.
use Rattle.std.specs.Prelude.{◌≡◌, ◌⊎◌, List, ℕ, ◌<◌, length}
use Rattle.model.specs.Case.{Table, Part}
use Rattle.theory.specs.Cells.{Makes, class_at, On}

-- A cell that is made of built cells is built.
abbrev pub Whole : Table → List ℕ → List ℕ → Type 0
Whole T rep builts = (c a b : ℕ) → class_at rep c ≡ c → Makes (T c) a b → On builts (class_at rep a) → On builts (class_at rep b) → On builts c

-- The cell c is one of the n of the table, stands for its class, and is not built.
pub record Lacking (n : ℕ) (rep builts : List ℕ) (c : ℕ) : Type 0 where
  pub inside : c < n
  pub stands : class_at rep c ≡ c
  pub unbuilt : On builts c → ⊥

-- Such a cell x, which stands for the class of a part of c, if c has parts.
pub record Below (T : Table) (n : ℕ) (rep builts : List ℕ) (c x : ℕ) : Type 0 where
  pub lacking : Lacking n rep builts x
  pub part : (d : ℕ) → Part (T c) d → (d' : ℕ) × Part (T c) d' × (x ≡ class_at rep d')

-- The cells of the row m are not built; with each that has parts, the class of one of these is in the row, or is x, where the way goes on.
pub record Walk (T : Table) (rep builts m : List ℕ) (x : ℕ) : Type 0 where
  pub long : length m ≡ 129
  pub unbuilt : (c : ℕ) → On m c → On builts c → ⊥
  pub part : (c d : ℕ) → On m c → Part (T c) d → (d' : ℕ) × Part (T c) d' × (On m (class_at rep d') ⊎ (x ≡ class_at rep d'))

-- The cells of the row r are not built; c is one, and with each that has parts the class of one of these.
pub record LineRow (T : Table) (rep builts : List ℕ) (c : ℕ) (r : List ℕ) : Type 0 where
  pub goal : On r c
  pub unbuilt : (d : ℕ) → On r d → On builts d → ⊥
  pub part : (d x : ℕ) → On r d → Part (T d) x → (x' : ℕ) × Part (T d) x' × On r (class_at rep x')
