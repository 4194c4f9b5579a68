-- Rows of marks: whether a mark is set, one mark more, and rows of none.
use mathlib.Core.Path.{◌≡◌, sym, ◌∙◌, subst}
use mathlib.Core.Logic.{◌⊎◌, inl, inr}
use mathlib.Core.List.{List}
use Prim.Native.Nat.{ℕ, ◌<◌}
use native.Mathlib.Omega.{arith}
use lib.ListN.{length, get_or, set, replicate}
use lib.Seq.{get_or-set_same, get_or-set_other}
use Rattle.model.proofs.Finite.{eq?}
use Rattle.model.proofs.Rows.{zeros}
use Rattle.theory.specs.Cells.{On}

pub on? : (m : List ℕ) (c : ℕ) → On m c ⊎ (On m c → ⊥)
on? m c = eq? (get_or m c 0) 1

pub no_mark : (n c : ℕ) → On (replicate n 0) c → ⊥
no_mark n c o = omega (arith, zeros n c, o)

-- One mark more, at j: it is set there, those that were stay, and there are no others.
module _ (m : List ℕ) (j : ℕ) where
  pub set_on : j < length m → On (set m j 1) j
  set_on h = get_or-set_same m j 1 0 h

  pub set_kept : j < length m → (c : ℕ) → On m c → On (set m j 1) c
  set_kept h c o = elim (eq? c j) [ inl e ↦ subst (On (set m j 1)) (sym e) (set_on h) | inr n ↦ get_or-set_other m j c 1 0 n ∙ o ]

  pub set_cases : (c : ℕ) → On (set m j 1) c → (c ≡ j) ⊎ On m c
  set_cases c o = elim (eq? c j) [ inl e ↦ inl e | inr n ↦ inr (sym (get_or-set_other m j c 1 0 n) ∙ o) ]
