-- Classes of cells: `rep c` is the cell that stands for the class of c. What the array keeps and what it means.
use Rattle.std.specs.Prelude.{◌≡◌, ◌⊎◌, ℕ, ◌≤◌, ◌<◌}
use Rattle.model.specs.Message.{One, Two, Message}
use Rattle.model.specs.Case.{Cell, AT, VA, ONE, TWO, Table, Part}

-- Two cells of one kind, with the same name or function, and with parts to which f and g give the same (their class, or their message).
pub data Likes {A : Type 0} (f g : ℕ → A) : Cell → Cell → Type 0 where
  atoms : {n : ℕ} → Likes f g (AT n) (AT n)
  ones : {t : One} {a a' : ℕ} → f a ≡ g a' → Likes f g (ONE t a) (ONE t a')
  twos : {t : Two} {l r l' r' : ℕ} → f l ≡ g l' → f r ≡ g r' → Likes f g (TWO t l r) (TWO t l' r')

-- The same with one function for both.
abbrev pub Alike : {A : Type 0} → (ℕ → A) → Cell → Cell → Type 0
Alike f = Likes f f

-- The class array is closed: a cell that is no variable is alike the one that stands for its class.
abbrev pub Closed : Table → (ℕ → ℕ) → Type 0
Closed T rep = (c : ℕ) → (T c ≡ VA → ⊥) → Alike rep (T c) (T (rep c))

-- m puts each cell together with the one that stands for its class.
abbrev pub Sat : (ℕ → ℕ) → (ℕ → Message) → Type 0
Sat rep m = (c : ℕ) → m c ≡ m (rep c)

-- A merge: rep' is rep with the classes a and b in one.
pub record Joins (rep : ℕ → ℕ) (a b : ℕ) (rep' : ℕ → ℕ) : Type 0 where
  pub coarser : (c : ℕ) → rep' (rep c) ≡ rep' c
  pub together : rep' a ≡ rep' b
  pub only : (c : ℕ) → (rep' c ≡ rep c) ⊎ (((rep c ≡ a) ⊎ (rep c ≡ b)) × ((rep' c ≡ a) ⊎ (rep' c ≡ b)))

-- The table comes round nowhere: each part ranks lower.
abbrev pub Ranked : Table → (ℕ → ℕ) → Type 0
Ranked S rank = (c d : ℕ) → Part (S c) d → rank d < rank c

-- What the class array keeps from the start: rep stands for its own class, is no variable if the class has a cell that is none, and is then not above any such cell.
pub record Reps (T : Table) (rep : ℕ → ℕ) : Type 0 where
  pub idem : (c : ℕ) → rep (rep c) ≡ rep c
  pub solid : (c : ℕ) → (T c ≡ VA → ⊥) → T (rep c) ≡ VA → ⊥
  pub lowest : (c : ℕ) → (T c ≡ VA → ⊥) → rep c ≤ c

-- rep' is rep with r for o.
abbrev pub Relabels : (ℕ → ℕ) → ℕ → ℕ → (ℕ → ℕ) → Type 0
Relabels rep o r rep' = (c : ℕ) → (rep c ≡ o → rep' c ≡ r) × ((rep c ≡ o → ⊥) → rep' c ≡ rep c)

-- The classes are closed upwards: cells whose parts are of the same classes are of one class. In says which cells are meant.
abbrev pub Up : Table → (ℕ → ℕ) → (ℕ → Type 0) → Type 0
Up S cls In = (c c' : ℕ) → In c → In c' → Alike cls (S c) (S c') → cls c ≡ cls c'
