-- Which cells are bare, and which are kept: the bare ones and all that stands in them. A cell that stands for its class speaks for it.
-- Idle, IsBare, Bares: the bare cells; Kept, Keeps: the kept ones; height_at, Heights: the heights of the messages.
use Rattle.std.specs.Prelude.{◌≡◌, ◌↔◌, List, ℕ, ◌+◌, ◌≤◌, ◌<◌, max, length, get_or}
use Rattle.model.specs.Message.{Message}
use Rattle.model.specs.Case.{Cell, AT, VA, ONE, TWO, Table, Part, Ground}
use Rattle.model.specs.Reduce.{height}
use Rattle.theory.specs.Cells.{Makes, class_at, On}

-- A cell that the reduced file does not list: name 0, or composed of parts that have B.
pub data Idle (B : ℕ → Type 0) (k : Cell) : Type 0 where
  own : k ≡ AT 0 → Idle B k
  made : {a b : ℕ} → Makes k a b → B a → B b → Idle B k

-- The class of the cell d is built.
abbrev pub BuiltClass : List ℕ → List ℕ → ℕ → Type 0
BuiltClass rep built d = On built (class_at rep d)

-- The cell k at the number c stands for its class, is built, and is bare and not name 0.
abbrev pub IsBare : List ℕ → List ℕ → ℕ → Cell → Type 0
IsBare rep built c k = (class_at rep c ≡ c) × On built c × (Idle (BuiltClass rep built) k → ⊥)

-- The marks on the cells below n that have P.
pub record Marking (P : ℕ → Type 0) (n : ℕ) (marks : List ℕ) : Type 0 where
  pub size : length marks ≡ 129
  pub exact : (c : ℕ) → On marks c ↔ ((c < n) × P c)

-- The marks on the bare cells.
abbrev pub Bares : Table → List ℕ → List ℕ → ℕ → List ℕ → Type 0
Bares T rep built n bare = Marking (λ c. IsBare rep built c (T c)) n bare

-- A kept cell: a bare one, or one that stands for the class of a part of a kept one.
pub data Kept (T : Table) (rep bare : List ℕ) : ℕ → Type 0 where
  itself : {c : ℕ} → On bare c → Kept T rep bare c
  part : {c d e : ℕ} → Kept T rep bare c → Part (T c) d → e ≡ class_at rep d → Kept T rep bare e

-- The marks on the kept cells.
pub record Keeps (T : Table) (rep bare : List ℕ) (n : ℕ) (keep : List ℕ) : Type 0 where
  pub size : length keep ≡ 129
  pub below : (c : ℕ) → On keep c → c < n
  pub exact : (c : ℕ) → On keep c ↔ Kept T rep bare c

-- The marks with those on the classes of a cell's parts added.
pub record Adds (rep marks : List ℕ) (k : Cell) (after : List ℕ) : Type 0 where
  pub size : length after ≡ 129
  pub stays : (c : ℕ) → On marks c → On after c
  pub parts : (d : ℕ) → Part k d → On after (class_at rep d)
  pub only : (c : ℕ) → (On marks c → ⊥) → On after c → (d : ℕ) × Part k d × (c ≡ class_at rep d)

-- The height of a cell's message, if high gives those of its parts.
abbrev pub height_at : (ℕ → ℕ) → Cell → ℕ
height_at high (AT n) = 0
height_at high VA = 0
height_at high (ONE g a) = 1 + high a
height_at high (TWO h l r) = 1 + max (high l) (high r)

-- The heights of the messages that the cells show.
pub record Heights (T : Table) (n : ℕ) (heights : List ℕ) : Type 0 where
  pub size : length heights ≡ 129
  pub low : (c : ℕ) → get_or heights c 0 ≤ n
  pub exact : (m : ℕ → Message) → Ground T m → (c : ℕ) → get_or heights c 0 ≡ height (m c)
