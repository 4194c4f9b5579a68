-- A list that equates two cells comes with values that make them equal; and a list is read at the variables alone.
use mathlib.Core.Path.{◌≡◌, sym, ◌∙◌, ap, subst}
use Prim.Native.Nat.{ℕ}
use Rattle.model.specs.Message.{Message}
use Rattle.model.specs.Case.{VA, Table, Reads, message, Lower}
use Rattle.model.specs.Values.{Ends, free, bound, cell, Equates}
use Rattle.model.proofs.Read.{message_reads, reads_one}
use Rattle.model.proofs.Follow.{followed, followed_reads, followed_holds}

-- Values that make the two cells equal, for a list that equates them.
pub equates_values : (T : Table) (a b : ℕ) (L : ℕ → ℕ) → Lower T → Equates T a b L → (ρ : ℕ → Message) × (message T ρ a ≡ message T ρ b)
equates_values T a b L low w =
    let m : ℕ → Message = λ c. followed T L (w.ends c) in
    let reads : Reads T m m = followed_reads T L w.ends in
    let one = reads_one T m m (message T m) low reads (message_reads T m low) in
    (m, sym (one a) ∙ ((w.exact m reads).1 (followed_holds T L w.ends) ∙ one b))

-- A list is read at the variables alone.
module _ (T : Table) (L L' : ℕ → ℕ) (same : (v : ℕ) → T v ≡ VA → L v ≡ L' v) where
  ends_same : {c : ℕ} → Ends T L c → Ends T L' c
  ends_same {c} (free v i) = free v (sym (same c v) ∙ i)
  ends_same {c} (bound v e) = bound v (subst (Ends T L') (same c v) (ends_same e))
  ends_same (cell s h) = cell s (λ d p. ends_same (h d p))

  pub equates_same : (a b : ℕ) → Equates T a b L → Equates T a b L'
  equates_same a b w = record {
    exact = λ m mr. (λ e v t. (w.exact m mr).0 e v t ∙ ap m (same v t), λ l. (w.exact m mr).1 (λ v t. l v t ∙ ap m (sym (same v t))));
    ends = λ c. ends_same (w.ends c);
  }
