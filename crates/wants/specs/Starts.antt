-- The marks that the sets of a step start from, as loops compute them from the marks of what is seen and built.
-- EndsAt: the classes of parts; Wider: more marks; Picks: what a loop picks; BareAt, BareTo: the bare cells; LacksKey, KeyTold, Keyed: keys; FreeAt, FreeSeen: free cells; DueTold, Due: what is to be made; Joint: two rows.
use Rattle.std.specs.Prelude.{Option, Some, None, ◌≡◌, ◌⊎◌, List, ℕ, ◌≤◌, ◌<◌, length, get_or}
use Rattle.model.specs.Case.{VA, PR, SE, Event, MK, Table, Part}
use Rattle.model.specs.Stored.{event_in, aim}
use Rattle.theory.specs.Cells.{Makes, class_at, On}
use Rattle.knowledge.specs.Knowledge.{MarkRow}
use Rattle.knowledge.specs.Sweeps.{left_class, right_class}

-- The cells l and r stand for the classes of the parts of c.
pub record EndsAt (T : Table) (rep : List ℕ) (c l r : ℕ) : Type 0 where
  pub left : l ≡ left_class T rep c
  pub right : r ≡ right_class T rep c
  pub left_low : l ≤ 128
  pub right_low : r ≤ 128

-- A row of marks on cells that stand for their class, which has the marks of m.
pub record Wider (rep m r : List ℕ) : Type 0 where
  pub long : length r ≡ 129
  pub marked : MarkRow rep r
  pub kept : (c : ℕ) → On m c → On r c

-- The row r has what P picks below `upto`, and else the marks of m.
pub record Picks (P : ℕ → Option ℕ → Type 0) (m r : List ℕ) (upto : ℕ) : Type 0 where
  pub long : length r ≡ 129
  pub kept : (c : ℕ) → On m c → On r c
  pub told : (d : ℕ) → d < upto → (k : Option ℕ) × P d k × ((t : ℕ) → k ≡ Some t → On r t)
  pub only : (c : ℕ) → (get_or r c 0 ≡ get_or m c 0) ⊎ (On r c × ((d : ℕ) × (d < upto) × P d (Some c)))

-- The cell c is seen, is no pair, has parts, and is not made of built cells.
pub record BareAt (T : Table) (rep seens builts : List ℕ) (c : ℕ) : Type 0 where
  pub whole : On seens c
  pub shut : (l r : ℕ) → T c ≡ PR l r → ⊥
  pub part : (x : ℕ) × Part (T c) x
  pub lacks : (a b : ℕ) → Makes (T c) a b → On builts (class_at rep a) → On builts (class_at rep b) → ⊥

-- The row r, each byte 0 or 1, marks exactly the bare cells below `upto`.
pub record BareTo (T : Table) (rep seens builts r : List ℕ) (upto : ℕ) : Type 0 where
  pub long : length r ≡ 129
  pub bits : (c : ℕ) → get_or r c 0 ≤ 1
  pub only : (c : ℕ) → On r c → (c < upto) × BareAt T rep seens builts c
  pub bares : (c : ℕ) → c < upto → BareAt T rep seens builts c → On r c

-- The cell c is a seal that is seen, and its key k is not built.
pub record LacksKey (T : Table) (rep seens builts : List ℕ) (c k : ℕ) : Type 0 where
  pub whole : On seens c
  pub sealed : (b : ℕ) × (T c ≡ SE b k)
  pub lacks : On builts (class_at rep k) → ⊥

-- What is found at c: the class of its key, or that it is no such seal.
pub data KeyTold (T : Table) (rep seens builts : List ℕ) (c : ℕ) : Option ℕ → Type 0 where
  key : {b k : ℕ} → T c ≡ SE b k → KeyTold T rep seens builts c (Some (class_at rep k))
  nothing : ((k : ℕ) → LacksKey T rep seens builts c k → ⊥) → KeyTold T rep seens builts c None

-- The row r has the marks of m, and the keys of such seals below `upto`.
pub record Keyed (T : Table) (rep seens builts m r : List ℕ) (upto : ℕ) : Type 0 where
  pub wider : Wider rep m r
  pub keys : (c k : ℕ) → c < upto → LacksKey T rep seens builts c k → On r (class_at rep k)

-- The cell c is free, and seen.
abbrev pub FreeAt : Table → List ℕ → ℕ → Type 0
FreeAt T seens c = On seens c × (T c ≡ VA)

-- The row r has the variables below `upto` that are seen.
pub record FreeSeen (T : Table) (rep seens r : List ℕ) (upto : ℕ) : Type 0 where
  pub long : length r ≡ 129
  pub marked : MarkRow rep r
  pub free : (c : ℕ) → c < upto → FreeAt T seens c → On r c

-- What is found at an event: the class of its cell, if it is to be made and marked in the row `held`.
pub data DueTold (rep held : List ℕ) (e : Event) : Option ℕ → Type 0 where
  due : DueTold rep held e (Some (class_at rep (aim e)))
  nothing : ((x : ℕ) → e ≡ MK x → On held (class_at rep x) → ⊥) → DueTold rep held e None

-- The row r has the classes of the cells to be made before p that are marked in the row `held`.
pub record Due (rep held run r : List ℕ) (p : ℕ) : Type 0 where
  pub long : length r ≡ 129
  pub marked : MarkRow rep r
  pub makes : (q x : ℕ) → q < p → event_in (get_or run q 0) ≡ MK x → On held (class_at rep x) → On r (class_at rep x)

-- The row r has the marks of a, and those of b below `upto`.
pub record Joint (a b r : List ℕ) (upto : ℕ) : Type 0 where
  pub long : length r ≡ 129
  pub left : (c : ℕ) → On a c → On r c
  pub right : (c : ℕ) → c < upto → On b c → On r c
