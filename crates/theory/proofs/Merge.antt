-- One merge of two classes of the array: that it joins them, and what it keeps.
use mathlib.Core.Path.{◌≡◌, sym, ◌∙◌, ap}
use mathlib.Core.Logic.{◌⊎◌, inl, inr}
use Prim.Native.Nat.{ℕ, ◌≤◌}
use native.Mathlib.Omega.{arith}
use Rattle.model.specs.Case.{VA, Table}
use Rattle.theory.specs.Classes.{Joins, Reps, Relabels}
use Rattle.model.proofs.Finite.{eq?}

module _ (T : Table) (rep rep' : ℕ → ℕ) (o r : ℕ) (R : Reps T rep) (ro : rep o ≡ o) (rr : rep r ≡ r) (differ : r ≡ o → ⊥) (l : Relabels rep o r rep') where
  at_r : rep' r ≡ r
  at_r = (l r).1 (λ e. differ (cc)) ∙ rr

  pub relabel_joins : Joins rep r o rep'
  relabel_joins = record { coarser = coarser; together = at_r ∙ sym ((l o).0 ro); only = only }
    where
      coarser : (c : ℕ) → rep' (rep c) ≡ rep' c
      coarser c = elim (eq? (rep c) o) [
        | inl e ↦ (l (rep c)).0 (R.idem c ∙ e) ∙ sym ((l c).0 e)
        | inr n ↦ (l (rep c)).1 (λ e. n (sym (R.idem c) ∙ e)) ∙ (R.idem c ∙ sym ((l c).1 n))
      ]

      only : (c : ℕ) → (rep' c ≡ rep c) ⊎ (((rep c ≡ r) ⊎ (rep c ≡ o)) × ((rep' c ≡ r) ⊎ (rep' c ≡ o)))
      only c = elim (eq? (rep c) o) [ inl e ↦ inr (inr e, inl ((l c).0 e)) | inr n ↦ inl ((l c).1 n) ]

  pub relabel_reps : ((T o ≡ VA → ⊥) → (T r ≡ VA → ⊥) × (r ≤ o)) → Reps T rep'
  relabel_reps better = record { idem = idem; solid = solid; lowest = lowest }
    where
      idem : (c : ℕ) → rep' (rep' c) ≡ rep' c
      idem c = elim (eq? (rep c) o) [
        | inl e ↦ ap rep' ((l c).0 e) ∙ (at_r ∙ sym ((l c).0 e))
        | inr n ↦ ap rep' ((l c).1 n) ∙ relabel_joins.coarser c
      ]

      old : (c : ℕ) → (T c ≡ VA → ⊥) → rep c ≡ o → T o ≡ VA → ⊥
      old c s e v = R.solid c s (ap T e ∙ v)

      solid : (c : ℕ) → (T c ≡ VA → ⊥) → T (rep' c) ≡ VA → ⊥
      solid c s v = elim (eq? (rep c) o) [
        | inl e ↦ (better (old c s e)).0 (ap T (sym ((l c).0 e)) ∙ v)
        | inr n ↦ R.solid c s (ap T (sym ((l c).1 n)) ∙ v)
      ]

      lowest : (c : ℕ) → (T c ≡ VA → ⊥) → rep' c ≤ c
      lowest c s = elim (eq? (rep c) o) [
        | inl e ↦ (let a = (better (old c s e)).1 in let b = R.lowest c s in let d = (l c).0 e in omega arith)
        | inr n ↦ (let b = R.lowest c s in let d = (l c).1 n in omega arith)
      ]
