-- Cells that show one message: when the classes tell them apart.
use mathlib.Core.Path.{◌≡◌, sym, ◌∙◌}
use mathlib.Core.Logic.{inl, inr}
use Prim.Native.Nat.{ℕ}
use Rattle.model.specs.Message.{Message, atom}
use Rattle.model.specs.Case.{VA, Table, Reads, Part, Ground}
use Rattle.theory.specs.Classes.{Up}
use Rattle.model.proofs.Steps.{size}
use Rattle.model.proofs.Read.{var?}
use Rattle.theory.proofs.Classes.{look_alike, alike_parts, rank_strong, reads_ranked}

-- If nothing but the class of a variable y shows what y is put to, different classes show different messages.
pub shows_apart : (S : Table) (cls : ℕ → ℕ) (ν τ : ℕ → Message) → Reads S ν τ → (In : ℕ → Type 0) → ((c d : ℕ) → In c → Part (S c) d → In d) → Up S cls In →
    ((y c : ℕ) → In y → In c → S y ≡ VA → τ y ≡ τ c → cls y ≡ cls c) → (c c' : ℕ) → In c → In c' → τ c ≡ τ c' → cls c ≡ cls c'
shows_apart S cls ν τ τr In parts up fresh = rank_strong (λ c. size (τ c)) (λ c. (c' : ℕ) → In c → In c' → τ c ≡ τ c' → cls c ≡ cls c') (λ c ih c' h h' e.
    elim (var? (S c)) [
      | inl v ↦ fresh c c' h h' v e
      | inr s ↦ elim (var? (S c')) [
        | inl v' ↦ sym (fresh c' c h' h v' (sym e))
        | inr s' ↦ up c c' h h' (alike_parts
            (λ d d' q q' i. ih d (reads_ranked S ν τ τr c d q) d' (parts c d h q) (parts c' d' h' q') i)
            (look_alike τ τ (ν c) (ν c') (S c) (S c') s s' (sym (τr c') ∙ (sym e ∙ τr c))))
      ]
    ])

-- Without variables: merging cells that are alike, until no two of different classes are. In: the cells meant, closed under parts.
pub twins : (S : Table) (m : ℕ → Message) → Ground S m → (In : ℕ → Type 0) → ((c d : ℕ) → In c → Part (S c) d → In d) → ((c : ℕ) → In c → S c ≡ VA → ⊥) →
    (twin : ℕ → ℕ) → Up S twin In → (c c' : ℕ) → In c → In c' → m c ≡ m c' → twin c ≡ twin c'
twins S m reads In parts solid twin up = shows_apart S twin (λ c. atom 0) m reads In parts up (λ y c h h' v e. absurd (solid y h v))
