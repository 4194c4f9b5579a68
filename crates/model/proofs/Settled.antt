-- Two replies to one input, each with its buffer, that keep one promise: what the questions share.
use mathlib.Core.Path.{◌≡◌, sym, ◌∙◌, ap}
use mathlib.Core.Logic.{◌⊎◌, inl, inr}
use mathlib.Core.List.{List}
use Prim.Native.Nat.{ℕ}
use lib.ListN.{length, drop}
use Rattle.model.specs.Case.{File}
use Rattle.model.specs.Format.{read_file, accepted}
use Rattle.model.specs.Replies.{laid, SameButList, same, lists}
use Rattle.model.proofs.Stored.{laid_beyond}

module _ {R : Type 0} where
  -- Both are z with the buffer c.
  pub both : {x y z : R} {a b c : List ℕ} → (x ≡ z) × (a ≡ c) → (y ≡ z) × (b ≡ c) → (x ≡ y) × (a ≡ b)
  both (e, i) (f, j) = (e ∙ sym f, i ∙ sym j)

  -- The reply r is "no", where Never holds and nothing is written, or "yes" with a list that answers at the front of the buffer.
  pub record NoOrList (no yes : R) (Never : Type 0) (Answers : List ℕ → Type 0) (before : List ℕ) (r : R) (after : List ℕ) : Type 0 where
    pub replied : (r ≡ no) ⊎ (r ≡ yes)
    pub never : r ≡ no → Never × (after ≡ before)
    pub listed : r ≡ yes → (list : List ℕ) × Answers list × (after ≡ laid list before)

  module _ (Answers : File → List ℕ → Type 0) (file before : List ℕ) {r r' : R} {after after' : List ℕ} where
    pub refusals_alike : {x : R} → (r ≡ x) × (after ≡ before) → (r' ≡ x) × (after' ≡ before) → (r ≡ r') × SameButList Answers file before after after'
    refusals_alike p p' = let (e, k) = both p p' in (e, same k)

    -- "No" and a list exclude each other, and all lists have one length: so two such replies differ at most in the list.
    module _ (f : File) (read : read_file file ≡ accepted f) {no yes : R} {Never : Type 0} (size : (list : List ℕ) → Answers f list → length list ≡ length f.cells)
        (not_both : Never → (list : List ℕ) → Answers f list → ⊥) (p : NoOrList no yes Never (Answers f) before r after) (p' : NoOrList no yes Never (Answers f) before r' after') where
      pub answers_alike : (r ≡ r') × SameButList Answers file before after after'
      answers_alike = go p.replied p'.replied
        where
          beyond : {a list : List ℕ} → Answers f list → a ≡ laid list before → drop (length f.cells) a ≡ drop (length f.cells) before
          beyond {list = list} w k = ap (drop (length f.cells)) k ∙ laid_beyond list before (length f.cells) (size list w)

          go : (r ≡ no) ⊎ (r ≡ yes) → (r' ≡ no) ⊎ (r' ≡ yes) → (r ≡ r') × SameButList Answers file before after after'
          go (inl e) (inl e') = refusals_alike (e, (p.never e).1) (e', (p'.never e').1)
          go (inl e) (inr e') = let (list, w, k) = p'.listed e' in absurd (not_both (p.never e).0 list w)
          go (inr e) (inl e') = let (list, w, k) = p.listed e in absurd (not_both (p'.never e').0 list w)
          go (inr e) (inr e') =
              let (list, w, k) = p.listed e in
              let (list', w', k') = p'.listed e' in
              (e ∙ sym e', lists f list list' read w w' k k' (beyond w k ∙ sym (beyond w' k')))
