-- The search: what it starts from, and what its answers say.
use Rattle.std.specs.Prelude.{◌≡◌, ℕ}
use Rattle.model.specs.Message.{Message}
use Rattle.model.specs.Case.{AT, Table, Run, Reads, Right}
use Rattle.theory.specs.Classes.{Closed, Sat}

-- No right values satisfy the classes.
abbrev pub None : Table → Run → (ℕ → ℕ) → Type 0
None T ev rep = (m : ℕ → Message) → Reads T m m → Right ev m → Sat rep m → ⊥

-- No right values satisfy the classes and make c and d equal.
abbrev pub NoneWith : Table → Run → (ℕ → ℕ) → ℕ → ℕ → Type 0
NoneWith T ev rep c d = (m : ℕ → Message) → Reads T m m → Right ev m → Sat rep m → m c ≡ m d → ⊥

-- What the class array keeps through the search. Cells of one name are of one class from the start, and merging more keeps them so.
pub record State (T : Table) (rep : ℕ → ℕ) : Type 0 where
  pub closed : Closed T rep
  pub idem : (c : ℕ) → rep (rep c) ≡ rep c
  pub names : (c d n : ℕ) → T c ≡ AT n → T d ≡ AT n → rep c ≡ rep d
