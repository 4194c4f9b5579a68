-- Values, value lists and equating lists.
-- RightValues; cell_of, Form, RightList: value lists; Ends, Equates, EquatingList: equating lists.
use Rattle.std.specs.Prelude.{◌≡◌, ◌↔◌, cond, List, ℕ, ◌<◌, eqb, length, get_or}
use Rattle.model.specs.Message.{Message}
use Rattle.model.specs.Case.{VA, Table, Run, Reads, message, Part, Right}

-- Values ρ of the variables are right.
abbrev pub RightValues : Table → Run → (ℕ → Message) → Type 0
RightValues T ev ρ = Right ev (message T ρ)

-- The cell that an entry of a value list names: itself, but for 255 the cell 128, beyond every file's, which shows name 0.
abbrev pub cell_of : ℕ → ℕ
cell_of x = cond (eqb x 255) 128 x

-- The entry x of the cell c has the form of a value list over n cells: for a variable a cell that is no variable, or 255; for any other cell its own number.
pub data Entry (T : Table) (n c x : ℕ) : Type 0 where
  bound : T c ≡ VA → x < n → (T x ≡ VA → ⊥) → Entry T n c x
  own : T c ≡ VA → x ≡ 255 → Entry T n c x
  itself : (T c ≡ VA → ⊥) → x ≡ c → Entry T n c x

-- A value list in good form: one entry for each of n cells.
pub record Form (T : Table) (n : ℕ) (list : List ℕ) : Type 0 where
  pub size : length list ≡ n
  pub entries : (c : ℕ) → c < n → Entry T n c (get_or list c 0)

-- `RightList T ev L`: the list that gives the variable v the cell L v is right: each cell has a finite message, by the table and by the list, and these are right.
-- Messages are finite, so following such a list never comes round.
abbrev pub RightList : Table → Run → (ℕ → ℕ) → Type 0
RightList T ev L = (m : ℕ → Message) × Reads T m m × ((v : ℕ) → T v ≡ VA → m v ≡ m (L v)) × Right ev m

-- Following a list of equalities through variables and parts never comes round again: from each cell it ends. A variable with its own number is free.
pub data Ends (T : Table) (L : ℕ → ℕ) : ℕ → Type 0 where
  free : {v : ℕ} → T v ≡ VA → L v ≡ v → Ends T L v
  bound : {v : ℕ} → T v ≡ VA → Ends T L (L v) → Ends T L v
  cell : {c : ℕ} → (T c ≡ VA → ⊥) → ((d : ℕ) → Part (T c) d → Ends T L d) → Ends T L c

-- A list equates the cells a and b: read as equalities it holds under exactly those values that make a and b equal, and following it ends.
pub record Equates (T : Table) (a b : ℕ) (L : ℕ → ℕ) : Type 0 where
  pub exact : (m : ℕ → Message) → Reads T m m → (m a ≡ m b) ↔ ((v : ℕ) → T v ≡ VA → m v ≡ m (L v))
  pub ends : (c : ℕ) → Ends T L c

-- A list of one entry for each of n cells, the number of a cell, for each that is no variable its own; and it equates the cells a and b.
pub record EquatingList (T : Table) (n a b : ℕ) (list : List ℕ) : Type 0 where
  pub size : length list ≡ n
  pub cells : (c : ℕ) → c < n → get_or list c c < n
  pub own : (c : ℕ) → (T c ≡ VA → ⊥) → get_or list c c ≡ c
  pub equates : Equates T a b (λ v. get_or list v v)
