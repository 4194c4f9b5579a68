-- Marks set one after another.
use mathlib.Core.Path.{sym, ◌∙◌, subst}
use mathlib.Core.Logic.{inl, inr}
use mathlib.Core.List.{List}
use Prim.Native.Nat.{ℕ, ◌+◌, ◌<◌}
use native.Mathlib.Omega.{arith}
use native.Mathlib.Decide.{ℕ_discrete}
use lib.ListN.{length, set, length-set, replicate, length-replicate}
use Rattle.theory.specs.Cells.{On}
use Rattle.theory.proofs.MarkRows.{no_mark, set_on, set_kept, set_cases}
use Rattle.reducing.specs.Bare.{Marking}

-- The marks on the cells with P, one cell more.
module _ (P : ℕ → Type 0) where
  pub marks_none : Marking P 0 (replicate 129 0)
  marks_none = record {
    size = length-replicate {A = ℕ} 129 0;
    exact = λ c. (λ o. absurd (no_mark 129 c o), λ (h, p). absurd (omega arith));
  }

  module _ (i : ℕ) (marks : List ℕ) (M : Marking P i marks) where
    pub marks_yes : i < 129 → P i → Marking P (i + 1) (set marks i 1)
    marks_yes h p =
        let lt : i < length marks = (let s = M.size in omega arith) in
        record {
          size = length-set marks i 1 ∙ M.size;
          exact = λ c. (
            λ o. elim (set_cases marks i c o) [
              | inl e ↦ (omega arith, subst P (sym e) p)
              | inr o' ↦ (let (l, q) = (M.exact c).0 o' in (omega arith, q))
            ],
            λ (l, q). elim (ℕ_discrete c i) [
              | yes e ↦ subst (On (set marks i 1)) (sym e) (set_on marks i lt)
              | no ne ↦ set_kept marks i lt c ((M.exact c).1 (omega arith, q))
            ],
          );
        }

    pub marks_no : (P i → ⊥) → Marking P (i + 1) marks
    marks_no n = record {
      size = M.size;
      exact = λ c. (
        λ o. (let (l, q) = (M.exact c).0 o in (omega arith, q)),
        λ (l, q). elim (ℕ_discrete c i) [ yes e ↦ absurd (n (subst P e q)) | no ne ↦ (M.exact c).1 (omega arith, q) ],
      );
    }
