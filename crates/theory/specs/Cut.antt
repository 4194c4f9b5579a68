-- A cut through what is to be made: cells that he cannot build, unless values make one of them equal to a cell of another class that may come to light.
-- Enough: what the search asks of its pairs; Mays: what is asked of `may`; Place: parts that stand at one place; Cut, Lit: on all cells, for any pairs;
-- CutPlan: the same on the cells that stand for their class; RowPlan: what loops establish, with want and bare; Sets: the sets they go by;
-- Granted, Line: the rule of the keys, and one way down; Wanting: all that may help.
use Rattle.std.specs.Prelude.{◌≡◌, ◌⊎◌, ℕ, ◌<◌}
use Rattle.std.proofs.Math.Option.{some}
use Rattle.model.specs.Message.{One, Two}
use Rattle.model.specs.Case.{Cell, AT, VA, ONE, TWO, MK, Table, Run, Part, Learnt}
use Rattle.theory.specs.Cells.{Makes, Opening}
use Rattle.theory.specs.Level.{Kin}
use Rattle.theory.specs.Search.{None, NoneWith}
use Rattle.theory.specs.Sweep.{Swept}

-- If no right values make a cell of want equal to a cell of bare, of its kind and of another class, then there are no right values.
abbrev pub Enough : Table → Run → (ℕ → ℕ) → (ℕ → Type 0) → (ℕ → Type 0) → Type 0
Enough T ev rep want bare =
    ((c d : ℕ) → rep c ≡ c → rep d ≡ d → want c → bare d → Kin (T c) (T d) → (c ≡ d → ⊥) → NoneWith T ev rep c d) → None T ev rep

-- What may not be equal is not: no right values make such a pair equal.
abbrev pub Mays : Table → Run → (ℕ → ℕ) → (ℕ → ℕ → Type 0) → Type 0
Mays T ev rep may = (c d : ℕ) → rep c ≡ c → rep d ≡ d → Kin (T c) (T d) → (c ≡ d → ⊥) → (may c d → ⊥) → NoneWith T ev rep c d

-- `Place k k' x x'`: the part x stands in k where x' stands in k'.
pub data Place : Cell → Cell → ℕ → ℕ → Type 0 where
  at_arg : {g : One} {a a' : ℕ} → Place (ONE g a) (ONE g a') a a'
  at_left : {h : Two} {l r l' r' : ℕ} → Place (TWO h l r) (TWO h l' r') l l'
  at_right : {h : Two} {l r l' r' : ℕ} → Place (TWO h l r) (TWO h l' r') r r'

-- `Cut c`: a way down from c to a name. O: the cells that may come to light; R: pairs of cells that values leave apart.
-- No cell of the way is in O. A cell d of O, of the kind of a cell c of the way, is apart from c, or has in O the part that stands where the way goes on.
module _ (T : Table) (rep : ℕ → ℕ) (O : ℕ → Type 0) (R : ℕ → ℕ → Type 0) where
  pub data Cut : ℕ → Type 0 where
    name : {c n : ℕ} → T (rep c) ≡ AT n → (n ≡ 0 → ⊥) → (O c → ⊥) → Cut c
    part : {c x : ℕ} → (O c → ⊥) → Part (T (rep c)) x → ((d x' : ℕ) → O d → (rep c ≡ rep d → ⊥) → Place (T (rep c)) (T (rep d)) x x' → O x' ⊎ R c d) → Cut x → Cut c

-- O holds all that comes to light before p, if values leave the pairs of R apart. H: cells that hold a free class of O; W: cells to be made before p, down to such a class.
-- What a cell of O gives is in O, or there is a cut through the key. Of a cell d of O, of the kind of a cell c of W: the part that stands where c's way goes down
-- to a free class is in O, or c and d are apart.
pub record Lit (T : Table) (rep : ℕ → ℕ) (ev : Run) (p : ℕ) (R : ℕ → ℕ → Type 0) (O H W : ℕ → Type 0) : Type 0 where
  pub learnt : (c : ℕ) → Learnt ev p c → O c
  pub same : (c d : ℕ) → rep c ≡ rep d → O c → O d
  pub opens : (c k d : ℕ) → Opening (λ c. T (rep c)) c k d → O c → O d ⊎ Cut T rep O R k
  pub leak : (c d x x' : ℕ) → W c → H x → O d → (rep c ≡ rep d → ⊥) → Place (T (rep c)) (T (rep d)) x x' → O x' ⊎ R c d
  pub here : (c : ℕ) → T (rep c) ≡ VA → O c → H c
  pub up : (c d : ℕ) → Part (T (rep c)) d → H d → H c
  pub due : (q t : ℕ) → q < p → ev q ≡ some (MK t) → H t → W t
  pub parts : (c d : ℕ) → W c → Part (T (rep c)) d → H d → W d

-- A name that is not his own.
abbrev pub Foreign : Cell → Type 0
Foreign k = (n : ℕ) × (k ≡ AT n) × (n ≡ 0 → ⊥)

-- The same on the cells that stand for their class. S, the cells that may come to light, H and W may be too large. K holds the cells of all cuts, and the cell to be made at p.
pub record CutPlan (T : Table) (ev : Run) (rep : ℕ → ℕ) (p : ℕ) (pair : ℕ → ℕ → Type 0) (S H W K : ℕ → Type 0) : Type 0 where
  pub cell : ℕ
  pub at : ev p ≡ some (MK cell)
  pub goal : K (rep cell)
  pub learnt : (c : ℕ) → Learnt ev p c → S (rep c)
  pub opens : (c k d : ℕ) → rep c ≡ c → Opening T c k d → S c → S (rep d) ⊎ K (rep k)
  pub dark : (c : ℕ) → rep c ≡ c → K c → S c → ⊥
  pub down : (c : ℕ) → rep c ≡ c → K c →
      Foreign (T c) ⊎ ((x : ℕ) × Part (T c) x × K (rep x) × ((d x' : ℕ) → rep d ≡ d → S d → Place (T c) (T d) x x' → S (rep x') ⊎ pair c d))
  pub leak : (c d x x' : ℕ) → rep c ≡ c → rep d ≡ d → W c → H (rep x) → Place (T c) (T d) x x' → S d → S (rep x') ⊎ pair c d
  pub here : (c : ℕ) → rep c ≡ c → T c ≡ VA → S c → H c
  pub up : (c d : ℕ) → rep c ≡ c → Part (T c) d → H (rep d) → H c
  pub due : (q t : ℕ) → q < p → ev q ≡ some (MK t) → H (rep t) → W (rep t)
  pub parts : (c d : ℕ) → rep c ≡ c → W c → Part (T c) d → H (rep d) → W (rep d)

-- What loops establish at a position p, on the cells that stand for their class; each set may be too large. S: seen; B: built; N: keys of seen cells that are not built, and
-- their parts that are not built; H: cells that hold a free class of S; W: cells to be made before p, down along H.
pub record Sets (T : Table) (rep : ℕ → ℕ) (ev : Run) (p : ℕ) (S B N H W : ℕ → Type 0) : Type 0 where
  pub marks : Swept T rep ev p S B
  pub marked : (c : ℕ) → B c ⊎ (B c → ⊥)
  pub keys : (c k d : ℕ) → rep c ≡ c → Opening T c k d → S c → (B (rep k) → ⊥) → N (rep k)
  pub lower : (c d : ℕ) → rep c ≡ c → N c → Part (T c) d → (B (rep d) → ⊥) → N (rep d)
  pub here : (c : ℕ) → rep c ≡ c → T c ≡ VA → S c → H c
  pub up : (c d : ℕ) → rep c ≡ c → Part (T c) d → H (rep d) → H c
  pub due : (q t : ℕ) → q < p → ev q ≡ some (MK t) → H (rep t) → W (rep t)
  pub parts : (c d : ℕ) → rep c ≡ c → W c → Part (T c) d → H (rep d) → W (rep d)

-- The bare cells: seen, with parts, and not made of built cells.
abbrev pub Bares : Table → (ℕ → ℕ) → (ℕ → Type 0) → (ℕ → Type 0) → (ℕ → Type 0) → Type 0
Bares T rep S B bare = (c x : ℕ) → rep c ≡ c → Part (T c) x → S c → ((a b : ℕ) → Makes (T c) a b → B (rep a) → B (rep b) → ⊥) → bare c

-- Cells K of cuts by such sets, with the pairs of want and bare. `may c d` says that c and d, of two classes, may be equal.
-- A cell of K that may be equal to a bare cell is wanted. A cell of W that may be equal to a seen cell is wanted, or what leaks there is seen.
pub record RowPlan (T : Table) (rep : ℕ → ℕ) (ev : Run) (p : ℕ) (may : ℕ → ℕ → Type 0) (S B N H W K want bare : ℕ → Type 0) : Type 0 where
  pub sets : Sets T rep ev p S B N H W
  pub bares : Bares T rep S B bare
  pub needs : (c : ℕ) → rep c ≡ c → N c → (B c → ⊥) → K c
  pub dark : (c : ℕ) → rep c ≡ c → K c → S c → ⊥
  pub down : (c : ℕ) → rep c ≡ c → K c → Foreign (T c) ⊎ ((x : ℕ) × Part (T c) x × K (rep x))
  pub pairs : (c d : ℕ) → rep c ≡ c → rep d ≡ d → K c → S d → bare d → may c d → want c
  pub leak : (c d x x' : ℕ) → rep c ≡ c → rep d ≡ d → W c → H (rep x) → Place (T c) (T d) x x' → S d → S (rep x') ⊎ (may c d → want c)

-- The pairs that want and bare leave: a pair that may be equal is to be tried.
abbrev pub Tried : (ℕ → ℕ → Type 0) → (ℕ → Type 0) → (ℕ → Type 0) → ℕ → ℕ → Type 0
Tried may want bare c d = may c d → want c × bare d

-- The rule of the keys: a cell of N that may be equal to a seen cell counts as built. And what may leak is seen.
pub record Granted (T : Table) (rep : ℕ → ℕ) (ev : Run) (p : ℕ) (may : ℕ → ℕ → Type 0) (S B N H W : ℕ → Type 0) : Type 0 where
  pub sets : Sets T rep ev p S B N H W
  pub grants : (c d : ℕ) → rep c ≡ c → rep d ≡ d → N c → S d → may c d → B c
  pub leak : (c d x x' : ℕ) → rep c ≡ c → rep d ≡ d → W c → H (rep x) → Place (T c) (T d) x x' → S d → S (rep x') ⊎ (may c d → ⊥)

-- A way down through cells that are not built: with each cell that has parts, one of these.
pub record Line (T : Table) (rep : ℕ → ℕ) (B L : ℕ → Type 0) : Type 0 where
  pub unbuilt : (c : ℕ) → rep c ≡ c → L c → B c → ⊥
  pub part : (c x : ℕ) → rep c ≡ c → L c → Part (T c) x → (x' : ℕ) × Part (T c) x' × L (rep x')

-- All that may help at p is wanted: what is to be made there with N, and W.
pub record Wanting (T : Table) (rep : ℕ → ℕ) (ev : Run) (p : ℕ) (S B N H W want : ℕ → Type 0) : Type 0 where
  pub sets : Sets T rep ev p S B N H W
  pub needs : (c : ℕ) → rep c ≡ c → N c → want c
  pub overs : (c : ℕ) → rep c ≡ c → W c → want c
