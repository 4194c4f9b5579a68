-- What solved classes give: a state of the search, and messages of the cells.
use mathlib.Core.Path.{◌≡◌}
use mathlib.Core.List.{List}
use Prim.Native.Nat.{ℕ, suc, ◌≤◌}
use native.Mathlib.Omega.{arith}
use native.Mathlib.Decide.{dec_lt}
use Rattle.model.specs.Message.{Message}
use Rattle.model.specs.Case.{VA, Table, Reads, shown}
use Rattle.model.specs.Stored.{table_in}
use Rattle.theory.specs.Cells.{TableWords, Grounds, class_at}
use Rattle.theory.specs.Classes.{Sat}
use Rattle.theory.specs.Search.{State}
use Rattle.theory.proofs.Classes.{ranked_reads}
use Rattle.theory.proofs.Answers.{τ-sat, τ-reads}
use Rattle.theory.proofs.Rows.{rows_var}
use Rattle.classes.specs.Kept.{Kept, Solved}

module _ (n : ℕ) (T : Table) (rep : List ℕ) where
  pub solved_state : Solved n T rep → State T (class_at rep)
  solved_state w = record { closed = w.closed; idem = w.kept.reps.idem; names = w.kept.names }

  -- Classes that come round nowhere show messages, with each free class y put to ν y.
  pub solved_grounds : Solved n T rep → (ν : ℕ → Message) → (τ : ℕ → Message) × Grounds T (class_at rep) ν τ
  solved_grounds w ν =
      let (rank, r) = w.finite in
      (λ c. shown (λ c. T (class_at rep c)) (λ c. ν (class_at rep c)) (suc (rank c)) c, ranked_reads (λ c. T (class_at rep c)) (λ c. ν (class_at rep c)) rank r)

  -- So there are messages of the cells that satisfy the classes.
  pub solved_met : Solved n T rep → (ν : ℕ → Message) → (τ : ℕ → Message) × Grounds T (class_at rep) ν τ × Reads T τ τ × Sat (class_at rep) τ
  solved_met w ν =
      let (τ, g) = solved_grounds w ν in
      (τ, g, τ-reads T (class_at rep) ν τ w.closed w.kept.reps.idem g, τ-sat T (class_at rep) ν τ w.closed w.kept.reps.idem g)

module _ {n : ℕ} {words rep : List ℕ} (w : TableWords n words) (k : Kept n (table_in words) rep) where
  -- The cells beyond the table's are of one class,
  pub kept_beyond : (c : ℕ) → n ≤ c → class_at rep c ≡ class_at rep 128
  kept_beyond c h = k.names c 128 0 (w.beyond c h) (w.beyond 128 w.few)

  -- and every class is named by a cell up to 128.
  pub kept_small : (c : ℕ) → class_at rep c ≤ 128
  kept_small c = elim (dec_lt c n) [
    | yes h ↦ omega (arith, k.inside c h, w.few)
    | no h ↦ (let e = kept_beyond c (omega arith) in let l = k.reps.lowest 128 solid in omega arith)
  ]
    where
      solid : table_in words 128 ≡ VA → ⊥
      solid v = omega (arith, rows_var w 128 v, w.few)
