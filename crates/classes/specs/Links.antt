-- Cells linked by their keys: a key is a byte that cells share which are alike by the classes of their parts.
-- mix_of, key_of: the keys; Linkable: what is linked; Behind: one link; Chained, Linked, Leads: links are right; Downward: they lead down.
use Rattle.std.specs.Prelude.{◌≡◌, List, ℕ, ◌+◌, ◌*◌, ◌%◌, ◌≤◌, ◌<◌, length, get_or}
use Rattle.model.specs.Message.{One, Two}
use Rattle.model.specs.Case.{Cell, AT, VA, ONE, TWO, Table}
use Rattle.model.specs.Reduce.{kind_one, kind_two, one_field}

-- Three bytes in one.
abbrev pub mix_of : ℕ → ℕ → ℕ → ℕ
mix_of x y k = (x * 17 + y + k * 91) % 256

-- The key of a cell by the classes: 0 of a name, 1 of a variable, and of a cell with parts its kind, its function and the classes of the parts in one byte.
unfoldable pub key_of : (ℕ → ℕ) → Cell → ℕ
key_of cls (AT n) = 0
key_of cls VA = 1
key_of cls (ONE g a) = mix_of (one_field g) (cls a) (kind_one g)
key_of cls (TWO h l r) = mix_of (cls l) (cls r) (kind_two h)

-- A cell with parts.
pub data Parted : Cell → Type 0 where
  one : {g : One} {a : ℕ} → Parted (ONE g a)
  two : {h : Two} {l r : ℕ} → Parted (TWO h l r)

-- What is linked: a cell with parts that stands for its class.
abbrev pub Linkable : Table → (ℕ → ℕ) → ℕ → Type 0
Linkable T cls d = (cls d ≡ d) × Parted (T d)

-- at is one more than the highest linkable cell below hi that has the key k; or it is 0, and there is none.
pub record Behind (T : Table) (cls : ℕ → ℕ) (k hi at : ℕ) : Type 0 where
  pub some : (d : ℕ) → at ≡ d + 1 → Linkable T cls d × (key_of cls (T d) ≡ k)
  pub none : (d : ℕ) → d < hi → at ≤ d → Linkable T cls d → key_of cls (T d) ≡ k → ⊥

-- The row links leads from each linkable cell below c to the highest one below it that has the same key.
abbrev pub Chained : Table → (ℕ → ℕ) → ℕ → List ℕ → Type 0
Chained T cls c links = (d : ℕ) → d < c → Linkable T cls d → Behind T cls (key_of cls (T d)) d (get_or links d 0)

-- The linkable cells below c are linked by their keys: the row tops leads from each key to the highest one.
pub record Linked (T : Table) (cls : ℕ → ℕ) (c : ℕ) (tops links : List ℕ) : Type 0 where
  pub heads : (k : ℕ) → Behind T cls k c (get_or tops k 0)
  pub chained : Chained T cls c links

-- From top the links lead to all linkable cells below c, a cell with parts, that have its key.
pub record Leads (T : Table) (cls : ℕ → ℕ) (links : List ℕ) (top c : ℕ) : Type 0 where
  pub parts : Parted (T c)
  pub head : Behind T cls (key_of cls (T c)) c top
  pub chained : Chained T cls c links

-- The links lead down from c, right or not.
pub record Downward (c : ℕ) (tops links : List ℕ) : Type 0 where
  pub bytes : length tops ≡ 256
  pub long : length links ≡ 129
  pub below : (k : ℕ) → get_or tops k 0 ≤ c
  pub lower : (d : ℕ) → get_or links d 0 ≤ d
