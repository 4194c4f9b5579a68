-- The form of an entry, and his own name put for the entries 255.
use mathlib.Core.Path.{◌≡◌}
use mathlib.Core.List.{List}
use Prim.Native.Nat.{ℕ, ◌≤◌, ◌<◌}
use native.Mathlib.Omega.{arith}
use Rattle.std.specs.Prelude.{Option, Some, None, MatchOption}
use lib.ListN.{get_or}
use Rattle.model.specs.Case.{AT, VA, Table}
use Rattle.model.specs.Values.{Entry, bound, own, itself}
use Rattle.checking.specs.Form.{FirstBad}

-- ---- one entry

module _ {T : Table} {n c x : ℕ} where
  pub entry_bound : T c ≡ VA → (x ≡ 255 → ⊥) → Entry T n c x → (x < n) × (T x ≡ VA → ⊥)
  entry_bound v ne (bound i l s) = (l, s)
  entry_bound v ne (own i e) = absurd (ne e)
  entry_bound v ne (itself s e) = absurd (s v)

-- The first cell that does not fit has the first entry of bad form.
pub first_bad : (T : Table) (n : ℕ) (list : List ℕ) (r : Option ℕ) → MatchOption r ((d : ℕ) → 0 ≤ d → d < n → Entry T n d (get_or list d 0))
    (λ c. (0 ≤ c) × (c < n) × (Entry T n c (get_or list c 0) → ⊥) × ((d : ℕ) → 0 ≤ d → d < c → Entry T n d (get_or list d 0))) → FirstBad T n list r
first_bad T n list (Some c) (z, h, bad, good) = (h, λ d l. good d (omega arith) l, bad)
first_bad T n list None all = λ d l. all d (omega arith) l

-- ---- his own name

-- The entries below i are put, the other cells are as they were.
pub record Owning (T : Table) (list : List ℕ) (T' : Table) (i : ℕ) : Type 0 where
  pub own : (c : ℕ) → c < i → get_or list c 0 ≡ 255 → T' c ≡ AT 0
  pub other : (c : ℕ) → c < i → (get_or list c 0 ≡ 255 → ⊥) → T' c ≡ T c
  pub rest : (c : ℕ) → i ≤ c → T' c ≡ T c
