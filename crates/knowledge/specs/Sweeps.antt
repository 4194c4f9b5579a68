-- The rules by which one cell adds marks, and what a sweep over the cells does.
-- Given, MadeBy, Gives, Adds: the rules; Newly, Shows: a cell at which one adds a mark; Grown: how a row of marks grows; Rising, Falling, Turned: the sweeps.
use Rattle.std.specs.Prelude.{◌≡◌, Bool, true, false, cond, List, [], ◌∷◌, ℕ, ◌+◌, ◌≤◌, ◌<◌, Option, Some, None, eqb, length}
use Rattle.model.specs.Case.{Cell, AT, VA, ONE, TWO, PR, SE, Table, Run}
use Rattle.theory.specs.Cells.{Makes, class_at, On}
use Rattle.theory.specs.Level.{Mark, seen, built}
use Rattle.knowledge.specs.declared.Ends.{Ends}
use Rattle.knowledge.specs.Knowledge.{MarkRow}

-- The first part of a cell: the left of a pair, a seal's body, an application's argument; where there is none, c.
abbrev pub left_part : Cell → ℕ → ℕ
left_part (AT n) c = c
left_part VA c = c
left_part (ONE g a) c = a
left_part (TWO h l r) c = l

-- The second: the right of a pair, a seal's key, an application's argument; where there is none, c.
abbrev pub right_part : Cell → ℕ → ℕ
right_part (AT n) c = c
right_part VA c = c
right_part (ONE g a) c = a
right_part (TWO h l r) c = r

-- The class of the first part.
abbrev pub left_class : Table → List ℕ → ℕ → ℕ
left_class T rep c = class_at rep (left_part (T c) c)

-- The class of the second.
abbrev pub right_class : Table → List ℕ → ℕ → ℕ
right_class T rep c = class_at rep (right_part (T c) c)

-- `Given k`: the cell k is built without any part: his own name, or a free cell.
pub data Given : Cell → Type 0 where
  free : Given VA
  zero : Given (AT 0)

-- `MadeBy k`: what the cell k shows is composed of what is built.
pub data MadeBy (k : Cell) (rep builts : List ℕ) : Type 0 where
  makes : {a b : ℕ} → Makes k a b → On builts (class_at rep a) → On builts (class_at rep b) → MadeBy k rep builts

-- `Gives k`: the cell k, once it is seen, has its parts seen. A pair gives them by itself, a seal with its key, and what is composed of what is built is no more than its parts.
pub data Gives (k : Cell) (rep builts : List ℕ) : Type 0 where
  pairs : {l r : ℕ} → k ≡ PR l r → Gives k rep builts
  keys : {b c : ℕ} → k ≡ SE b c → On builts (class_at rep c) → Gives k rep builts
  parts : MadeBy k rep builts → Gives k rep builts

-- `Adds c`: the cell c is built: it is seen, or it is given, or made.
pub data Adds (T : Table) (rep seens builts : List ℕ) (c : ℕ) : Type 0 where
  had : On seens c → Adds T rep seens builts c
  given : Given (T c) → Adds T rep seens builts c
  made : MadeBy (T c) rep builts → Adds T rep seens builts c

-- The cell c stands for its class, is not yet marked as built, and is built.
pub record Newly (T : Table) (rep seens builts : List ℕ) (c : ℕ) : Type 0 where
  pub stands : class_at rep c ≡ c
  pub new : On builts c → ⊥
  pub adds : Adds T rep seens builts c

-- The cell c stands for its class, is seen and gives its parts, and they are not yet both marked as seen.
pub record Shows (T : Table) (rep seens builts : List ℕ) (c : ℕ) : Type 0 where
  pub stands : class_at rep c ≡ c
  pub whole : On seens c
  pub gives : Gives (T c) rep builts
  pub new : On seens (left_class T rep c) → On seens (right_class T rep c) → ⊥

-- What is found at c: the classes of its parts, where they are newly seen.
abbrev pub Finds : Table → List ℕ → List ℕ → List ℕ → ℕ → Option Ends → Type 0
Finds T rep seens builts c (Some e) = (e.left ≡ left_class T rep c) × (e.right ≡ right_class T rep c) × Shows T rep seens builts c
Finds T rep seens builts c None = Shows T rep seens builts c → ⊥

-- How many entries of a row are no mark.
abbrev pub missing : List ℕ → ℕ
missing [] = 0
missing (x ∷ xs) = cond (eqb x 1) 0 1 + missing xs

-- The row r has the marks of m, and more of them exactly if something changed.
pub record Grown (rep m r : List ℕ) (changed : Bool) : Type 0 where
  pub long : length r ≡ 129
  pub marked : MarkRow rep r
  pub kept : (c : ℕ) → On m c → On r c
  pub same : changed ≡ false → r ≡ m
  pub down : missing r ≤ missing m
  pub moved : changed ≡ true → missing r < missing m

-- A row of marks holds nothing that is not seen before p.
abbrev pub SeenOnly : Table → List ℕ → Run → ℕ → List ℕ → Type 0
SeenOnly T rep ev p marks = (c : ℕ) → On marks c → Mark T (class_at rep) ev p seen c

-- A row of marks holds nothing that is not built before p.
abbrev pub BuiltOnly : Table → List ℕ → Run → ℕ → List ℕ → Type 0
BuiltOnly T rep ev p marks = (c : ℕ) → On marks c → Mark T (class_at rep) ev p built c

-- A sweep upwards over the cells below `upto`, which takes the marks m of built cells to r.
pub record Rising (T : Table) (rep seens m r : List ℕ) (changed : Bool) (upto : ℕ) : Type 0 where
  pub grown : Grown rep m r changed
  pub sound : (ev : Run) (p : ℕ) → SeenOnly T rep ev p seens → BuiltOnly T rep ev p m → BuiltOnly T rep ev p r
  pub still : changed ≡ false → (c : ℕ) → c < upto → Newly T rep seens r c → ⊥

-- A sweep downwards over the cells from `from` to n, which takes the marks m of seen cells to r.
pub record Falling (T : Table) (rep builts m r : List ℕ) (changed : Bool) (n from : ℕ) : Type 0 where
  pub grown : Grown rep m r changed
  pub sound : (ev : Run) (p : ℕ) → SeenOnly T rep ev p m → BuiltOnly T rep ev p builts → SeenOnly T rep ev p r
  pub still : changed ≡ false → (c : ℕ) → from ≤ c → c < n → Shows T rep r builts c → ⊥

-- Both sweeps in turn: from the marks s and b to s' and b'.
pub record Turned (T : Table) (n : ℕ) (rep s b s' b' : List ℕ) (changed : Bool) : Type 0 where
  pub seen_marked : MarkRow rep s'
  pub built_marked : MarkRow rep b'
  pub seen_kept : (c : ℕ) → On s c → On s' c
  pub built_kept : (c : ℕ) → On b c → On b' c
  pub seen_sound : (ev : Run) (p : ℕ) → SeenOnly T rep ev p s → BuiltOnly T rep ev p b → SeenOnly T rep ev p s'
  pub built_sound : (ev : Run) (p : ℕ) → SeenOnly T rep ev p s → BuiltOnly T rep ev p b → BuiltOnly T rep ev p b'
  pub still : changed ≡ false → (c : ℕ) → c < n → (Newly T rep s' b' c → ⊥) × (Shows T rep s' b' c → ⊥)
  pub moved : changed ≡ true → missing s' + missing b' < missing s + missing b

-- The marks of built cells to start from: his own name is built, if no cell of the table stands for it.
pub record OwnMarks (n : ℕ) (rep r : List ℕ) : Type 0 where
  pub marked : MarkRow rep r
  pub own : n ≤ class_at rep 128 → On r (class_at rep 128)
  pub only : (c : ℕ) → On r c → (c ≡ class_at rep 128) × (n ≤ c)
