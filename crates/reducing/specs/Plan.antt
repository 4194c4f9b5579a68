-- The plan of the reduced file: its cells in the new numbers, and marks on the cells that it learns.
-- up_to, marked, planned: the file that a plan stands for; Sized: what every plan keeps; ReducedFile, Plans, PlansRun: the promise; empty_plan, put_row, Laid: how it is laid out.
use Rattle.std.specs.Prelude.{◌≡◌, ◌↔◌, cond, List, [], ◌∷◌, ◌++◌, map, ℕ, zero, suc, ◌+◌, ◌≤◌, ◌<◌, eqb, length, get_or, set, replicate}
use Rattle.model.specs.Message.{Message, Built}
use Rattle.model.specs.Case.{File, VA, LN, Table, table_of, Run, Heard, Ground}
use Rattle.model.specs.Reduce.{Rest, Reduces}
use Rattle.model.specs.Stored.{cell_in, table_in}
use Rattle.reducing.specs.Given.{Shown}
use Rattle.reducing.specs.Order.{number_at, placed}
use Rattle.reducing.specs.declared.Plan.{Plan}

-- The first n values of f.
unfoldable pub up_to : {A : Type 0} → (ℕ → A) → ℕ → List A
up_to f zero = []
up_to f (suc n) = up_to f n ++ (f n ∷ [])

-- One, where a byte is a mark.
abbrev pub tally : ℕ → ℕ
tally b = cond (eqb b 1) 1 0

-- The numbers below n that have a mark, rising.
unfoldable pub marked : List ℕ → ℕ → List ℕ
marked marks zero = []
marked marks (suc n) = marked marks n ++ cond (eqb (get_or marks n 0) 1) (n ∷ []) []

-- The file that a plan stands for.
abbrev pub planned : Plan → File
planned p = record { cells = up_to (table_in p.table) p.cells; events = map LN (marked p.learnt p.cells) }

-- What every plan keeps: at most 128 cells, none a variable, and the number of its events.
pub record Sized (p : Plan) : Type 0 where
  pub few : p.cells ≤ 128
  pub solid : (j : ℕ) → j < p.cells → table_in p.table j ≡ VA → ⊥
  pub counts : p.events ≡ length (marked p.learnt p.cells)

-- The file g is the reduced file of the learnt messages K.
abbrev pub ReducedFile : (Message → Type 0) → File → Type 0
ReducedFile K g = (μ : ℕ → Message) × (learnt : List ℕ) × Reduces K (table_of g.cells) μ (length g.cells) learnt × (g.events ≡ map LN learnt)

-- The plan p stands for the reduced file, whatever the cells show and the run teaches, if the classes and the marks go by it.
abbrev pub Plans : Table → List ℕ → List ℕ → Plan → Type 0
Plans T rep built p = (m : ℕ → Message) (ev : Run) → Shown T rep built m ev → ReducedFile (Heard ev m) (planned p)

-- The plan p stands for the reduced file of what the run teaches, and from what that file lists he builds what he builds from all.
abbrev pub PlansRun : Table → Run → Plan → Type 0
PlansRun T ev p = (m : ℕ → Message) → Ground T m → ReducedFile (Heard ev m) (planned p) × ((x : Message) → Built (Rest (Heard ev m)) x ↔ Built (Heard ev m) x)

-- The plan of the empty file.
abbrev pub empty_plan : Plan
empty_plan = record { table = replicate 128 0; learnt = replicate 128 0; cells = 0; events = 0 }

-- The plan with one more cell, given by its word, learnt if b is a mark.
abbrev pub put_row : Plan → ℕ → ℕ → Plan
put_row p w b = record {
  table = set p.table p.cells w;
  learnt = set p.learnt p.cells b;
  cells = p.cells + 1;
  events = p.events + tally b;
}

-- The first i cells are the cells old 0, old 1, .. in the new numbers, learnt where these are bare.
pub record Laid (words rep old new bare : List ℕ) (i : ℕ) (p : Plan) : Type 0 where
  pub cells : p.cells ≡ i
  pub table_size : length p.table ≡ 128
  pub learnt_size : length p.learnt ≡ 128
  pub cells_are : (j : ℕ) → j < i → cell_in (get_or p.table j 0) ≡ placed (number_at rep new) (table_in words (get_or old j 0))
  pub marks_are : (j : ℕ) → j < i → get_or p.learnt j 0 ≡ get_or bare (get_or old j 0) 0
  pub counts : p.events ≡ length (marked p.learnt i)
  pub below : p.events ≤ i
