-- One step of the search: when it may say yes, and when no.
use mathlib.Core.Path.{◌≡◌, sym, ◌∙◌, ap, subst}
use mathlib.Core.Logic.{◌⊎◌}
use mathlib.Core.Option.{some}
use Prim.Native.Nat.{ℕ}
use Rattle.model.specs.Message.{Message}
use Rattle.model.specs.Case.{VA, MK, Table, Run, look, Reads, Lower, Right}
use Rattle.theory.specs.Cells.{Formed, Grounds}
use Rattle.theory.specs.Classes.{Sat}
use Rattle.model.specs.Values.{RightList, RightValues}
use Rattle.theory.specs.Level.{built, Mark}
use Rattle.theory.specs.Search.{None, NoneWith, State}
use Rattle.model.proofs.Steps.{Own}
use Rattle.theory.proofs.Answers.{τ-sat, τ-reads, run_yes_lem}
use Rattle.model.proofs.Read.{values_right}
use Rattle.theory.proofs.Level.{all_built}

-- Yes: at every position what is to be made is built; then the values that put every free class to an own message are right.
pub search_yes : (T : Table) (ev : Run) (rep : ℕ → ℕ) (ν τ : ℕ → Message) → Formed T → State T rep → Grounds T rep ν τ → ((y : ℕ) → Own (ν y)) →
    ((p t : ℕ) → ev p ≡ some (MK t) → Mark T rep ev p built t) → Right ev τ
search_yes T ev rep ν τ ok st τr own all = record {
  makes = all_built T rep ev ok τ (τ-reads T rep ν τ st.closed st.idem τr) (τ-sat T rep ν τ st.closed st.idem τr)
      (λ c v. subst Own (sym (τr c ∙ ap (look (ν (rep c)) τ) v)) (own (rep c))) all;
}

-- A pair was tried if there are no values that make it equal, right or not,
pub clash_none : (T : Table) (ev : Run) (rep : ℕ → ℕ) (c d : ℕ) → ((m : ℕ → Message) → Reads T m m → Sat rep m → m c ≡ m d → ⊥) → NoneWith T ev rep c d
clash_none T ev rep c d clash m mr right ms e = clash m mr ms e

-- or it was tried the other way round.
pub none_sym : (T : Table) (ev : Run) (rep : ℕ → ℕ) (c d : ℕ) → NoneWith T ev rep d c → NoneWith T ev rep c d
none_sym T ev rep c d not m mr right ms e = not m mr right ms (sym e)

-- The replies: a list that gives each variable a cell of its class, or a cell that shows what its free class is put to, is right;
pub reply_yes : (T : Table) (ev : Run) (rep : ℕ → ℕ) (ν τ : ℕ → Message) → Formed T → State T rep → Grounds T rep ν τ → ((y : ℕ) → Own (ν y)) →
    ((p t : ℕ) → ev p ≡ some (MK t) → Mark T rep ev p built t) → (L : ℕ → ℕ) → ((v : ℕ) → T v ≡ VA → (rep v ≡ rep (L v)) ⊎ ((T (rep v) ≡ VA) × (τ (L v) ≡ ν (rep v)))) → RightList T ev L
reply_yes T ev rep ν τ ok st τr own all L list = run_yes_lem T rep ν τ st.closed st.idem τr ev L list (search_yes T ev rep ν τ ok st τr own all)

-- or no values are, if the search began with classes that all values satisfy.
pub reply_no : (T : Table) (ev : Run) (rep : ℕ → ℕ) → Lower T → ((m : ℕ → Message) → Reads T m m → Sat rep m) → None T ev rep → (ρ : ℕ → Message) → RightValues T ev ρ → ⊥
reply_no T ev rep low start no_one ρ right = (let (m, mr, r) = values_right T ev low ρ right in no_one m mr r (start m mr))
