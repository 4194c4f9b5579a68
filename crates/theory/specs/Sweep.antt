-- The marks of Level.antt as loops compute them, on the cells that stand for their class: rep c ≡ c.
use Rattle.std.specs.Prelude.{◌≡◌, ℕ}
use Rattle.model.specs.Case.{AT, VA, Table, Run, Part, Learnt}
use Rattle.theory.specs.Cells.{Makes, Opening}

-- S, the seen cells, and B, the built ones, are closed under the rules of Mark.
pub record Swept (T : Table) (rep : ℕ → ℕ) (ev : Run) (p : ℕ) (S B : ℕ → Type 0) : Type 0 where
  pub learnt : (c : ℕ) → Learnt ev p c → S (rep c)
  pub opens : (c k d : ℕ) → rep c ≡ c → Opening T c k d → S c → B (rep k) → S (rep d)
  pub parts : (c a b d : ℕ) → rep c ≡ c → Makes (T c) a b → Part (T c) d → S c → B (rep a) → B (rep b) → S (rep d)
  pub free : (c : ℕ) → rep c ≡ c → T c ≡ VA → B c
  pub zero : (c : ℕ) → rep c ≡ c → T c ≡ AT 0 → B c
  pub had : (c : ℕ) → rep c ≡ c → S c → B c
  pub makes : (c a b : ℕ) → rep c ≡ c → Makes (T c) a b → B (rep a) → B (rep b) → B c
