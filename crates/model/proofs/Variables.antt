-- The place of the first variable of a list of cells: four bytes for each cell before it.
use mathlib.Core.Path.{◌≡◌, refl, ◌∙◌, ap}
use mathlib.Core.Logic.{◌↔◌, inl, inr}
use mathlib.Core.List.{List, [], ◌∷◌}
use mathlib.Core.Option.{some, none}
use Prim.Native.Nat.{ℕ, zero, suc, ◌+◌, ◌*◌, ◌<◌}
use native.Mathlib.Omega.{arith}
use lib.ListN.{length}
use Rattle.model.specs.Case.{Cell, AT, VA, ONE, TWO, table_of}
use Rattle.model.specs.Format.{variable_from, first_variable}
use Rattle.model.proofs.Read.{clash, var?}

-- `FirstAt cells i`: the cell i is a variable, and no cell before it is.
pub record FirstAt (cells : List Cell) (i : ℕ) : Type 0 where
  pub variable : table_of cells i ≡ VA
  pub before : (j : ℕ) → j < i → table_of cells j ≡ VA → ⊥

-- No cell is a variable.
abbrev pub Solid : List Cell → Type 0
Solid cells = (c : ℕ) → table_of cells c ≡ VA → ⊥

from_variable : (at : ℕ) (c : Cell) (cells : List Cell) → c ≡ VA → variable_from at (c ∷ cells) ≡ some at
unfolding variable_from
from_variable at (AT n) cells e = clash (cc)
from_variable at VA cells e = refl
from_variable at (ONE g a) cells e = clash (cc)
from_variable at (TWO h l r) cells e = clash (cc)

from_solid : (at : ℕ) (c : Cell) (cells : List Cell) → (c ≡ VA → ⊥) → variable_from at (c ∷ cells) ≡ variable_from (at + 4) cells
unfolding variable_from
from_solid at (AT n) cells s = refl
from_solid at VA cells s = absurd (s refl)
from_solid at (ONE g a) cells s = refl
from_solid at (TWO h l r) cells s = refl

first_below : (cells : List Cell) (i : ℕ) → table_of cells i ≡ VA → i < length cells
first_below [] i e = clash (cc)
first_below (c ∷ cells) zero e = omega arith
first_below (c ∷ cells) (suc i) e = let h = first_below cells i e in omega arith

from_first : (at : ℕ) (cells : List Cell) (i : ℕ) → FirstAt cells i → variable_from at cells ≡ some (at + 4 * i)
from_first at [] i f = clash (cc f.variable)
from_first at (c ∷ cells) zero f = from_variable at c cells f.variable ∙ (let z : at ≡ at + 4 * 0 = omega arith in ap some z)
from_first at (c ∷ cells) (suc i) f =
    from_solid at c cells (f.before 0 (omega arith))
    ∙ (from_first (at + 4) cells i (record { variable = f.variable; before = λ j h. f.before (suc j) (omega arith) })
    ∙ (let z : at + 4 + 4 * i ≡ at + 4 * suc i = omega arith in ap some z))

from_none : (at : ℕ) (cells : List Cell) → Solid cells → variable_from at cells ≡ none
unfolding variable_from
from_none at [] s = refl
from_none at (c ∷ cells) s = from_solid at c cells (s 0) ∙ from_none (at + 4) cells (λ i. s (suc i))

-- The first variable, or none.
pub data Searched (cells : List Cell) : Type 0 where
  found : (i : ℕ) → FirstAt cells i → Searched cells
  solid : Solid cells → Searched cells

pub searched : (cells : List Cell) → Searched cells
searched [] = solid (λ c e. clash (cc))
searched (c ∷ cells) = elim (var? c) [
  | inl e ↦ found 0 (record { variable = e; before = λ j h. absurd (omega arith) })
  | inr s ↦ elim (searched cells) [
    | found i f ↦ found (suc i) (record { variable = f.variable; before = λ j. elim j as (λ k. k < suc i → table_of (c ∷ cells) k ≡ VA → ⊥) [ zero ↦ λ h. s | suc k ↦ λ h. f.before k (omega arith) ] })
    | solid n ↦ solid (λ j. elim j as (λ k. table_of (c ∷ cells) k ≡ VA → ⊥) [ zero ↦ s | suc k ↦ n k ])
  ]
]

pub first_variable_lem : (cells : List Cell) (i : ℕ) → FirstAt cells i → first_variable cells ≡ some (4 * i)
first_variable_lem cells i f = from_first 0 cells i f ∙ (let z : 0 + 4 * i ≡ 4 * i = omega arith in ap some z)

pub variable_first : (cells : List Cell) (at : ℕ) → first_variable cells ≡ some at → (i : ℕ) × (at ≡ 4 * i) × (i < length cells) × FirstAt cells i
variable_first cells at e = elim (searched cells) [
  | found i f ↦ (let h = first_variable_lem cells i f in (i, cc, first_below cells i f.variable, f))
  | solid s ↦ (let h = from_none 0 cells s in clash (cc))
]

pub no_variable : (cells : List Cell) → (first_variable cells ≡ none) ↔ Solid cells
no_variable cells = (to, from_none 0 cells)
  where
    to : first_variable cells ≡ none → Solid cells
    to e = elim (searched cells) [ found i f ↦ (let h = first_variable_lem cells i f in clash (cc)) | solid s ↦ s ]
