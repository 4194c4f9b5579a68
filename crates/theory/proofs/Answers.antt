-- Closed classes that are finite give the replies to run and equating; classes that come round have no values.
use mathlib.Core.Path.{◌≡◌, refl, sym, ◌∙◌, ap, subst}
use mathlib.Core.Logic.{◌↔◌, ◌⊎◌, inl, inr}
use Prim.Native.Nat.{ℕ, ◌≤◌, ◌<◌}
use Rattle.model.specs.Message.{Message}
use Rattle.model.specs.Case.{VA, Table, Run, look, Reads, Part, Lower, Right}
use Rattle.theory.specs.Cells.{Grounds}
use Rattle.theory.specs.Classes.{Alike, Closed, Sat}
use Rattle.model.specs.Values.{RightList, Ends, free, cell, bound, Equates}
use Rattle.model.proofs.Steps.{size}
use Rattle.model.proofs.Read.{var?}
use Rattle.theory.proofs.Classes.{part_alike, alike_parts, alike_look, list_classes, rank_strong, reads_ranked, all_done_of_reading}

-- Closed classes that are finite: τ reads them with each free class y put to ν y.
module _ (T : Table) (rep : ℕ → ℕ) (ν τ : ℕ → Message) (closed : Closed T rep) (idem : (c : ℕ) → rep (rep c) ≡ rep c) (τr : Grounds T rep ν τ) where
  τ-one : {c c' : ℕ} → rep c ≡ rep c' → τ c ≡ τ c'
  τ-one {c} {c'} e = cc (τr c, τr c')

  pub τ-sat : Sat rep τ
  τ-sat c = τ-one (sym (idem c))

  pub τ-reads : Reads T τ τ
  τ-reads c = elim (var? (T c)) [
    | inl v ↦ subst (λ k. τ c ≡ look (τ c) τ k) (sym v) refl
    | inr s ↦
        let parts : Alike τ (T c) (T (rep c)) = alike_parts (λ d d' q q' e. τ-one e) (closed c s) in
        τr c ∙ sym (alike_look (τ c) (ν (rep c)) parts)
  ]

  -- Yes to a run: a list that gives each variable a cell of its class, or a cell that shows what its free class is put to.
  pub run_yes_lem : (ev : Run) (L : ℕ → ℕ) → ((v : ℕ) → T v ≡ VA → (rep v ≡ rep (L v)) ⊎ ((T (rep v) ≡ VA) × (τ (L v) ≡ ν (rep v)))) → Right ev τ → RightList T ev L
  run_yes_lem ev L list right = (τ, τ-reads, λ v e. at v (list v e), right)
    where
      at : (v : ℕ) → (rep v ≡ rep (L v)) ⊎ ((T (rep v) ≡ VA) × (τ (L v) ≡ ν (rep v))) → τ v ≡ τ (L v)
      at v (inl e) = τ-one e
      at v (inr (e, x)) = τr v ∙ (ap (look (ν (rep v)) τ) e ∙ sym x)

  -- Yes to equating: the list of the variables' representatives.
  class_ends : (c : ℕ) → Ends T rep c
  class_ends = rank_strong (λ c. size (τ c)) (Ends T rep) (λ c ih. step c (λ d q. ih d (reads_ranked (λ c. T (rep c)) (λ c. ν (rep c)) τ τr c d q)) ih)
    where
      solid : (c : ℕ) → ((d : ℕ) → size (τ d) < size (τ c) → Ends T rep d) → (T c ≡ VA → ⊥) → Ends T rep c
      solid c ih s = cell s (λ d q.
          let (d', q', e) = part_alike (closed c s) q in
          let lt = reads_ranked (λ c. T (rep c)) (λ c. ν (rep c)) τ τr c d' q' in
          ih d (subst (λ x. size x < size (τ c)) (sym (τ-one e)) lt))

      step : (c : ℕ) → ((d : ℕ) → Part (T (rep c)) d → Ends T rep d) → ((d : ℕ) → size (τ d) < size (τ c) → Ends T rep d) → Ends T rep c
      step c ih all = elim (var? (T c)) [
        | inl v ↦ elim (var? (T (rep c))) [
          | inl w ↦ bound v (free w (idem c))
          | inr s ↦ bound v (cell s ih)
        ]
        | inr s ↦ solid c all s
      ]

  pub equate_yes_lem : (a b : ℕ) → Lower T → ((c : ℕ) → (T c ≡ VA → ⊥) → rep c ≤ c) → ((m : ℕ → Message) → Reads T m m → (m a ≡ m b) ↔ Sat rep m) → Equates T a b rep
  equate_yes_lem a b low lowest same = record {
    exact = λ m mr. (λ e v _. (same m mr).0 e v, λ l. (same m mr).1 (list_classes T rep m low closed lowest mr l));
    ends = class_ends;
  }

-- No: finite values exist only if every class gets done.
pub round_no : (T : Table) (rep : ℕ → ℕ) (Done : ℕ → Type 0) → ((c : ℕ) → ((d : ℕ) → Part (T (rep c)) d → Done d) → Done c) →
    (c : ℕ) → (Done c → ⊥) → (m : ℕ → Message) → Reads T m m → Sat rep m → ⊥
round_no T rep Done close c no-c m mr ms = no-c (all_done_of_reading (λ c. T (rep c)) m m
    (λ d. ms d ∙ (mr (rep d) ∙ ap (λ v. look v m (T (rep d))) (sym (ms d)))) Done close c)
