-- The value list of classes at which everything that is to be made is built is a right list in good form.
use mathlib.Core.Path.{◌≡◌, sym, ◌∙◌, ap, subst}
use mathlib.Core.Logic.{◌⊎◌, inl, inr}
use mathlib.Core.List.{List}
use mathlib.Core.Option.{some}
use Prim.Native.Nat.{ℕ, ◌≤◌, ◌<◌}
use native.Mathlib.Omega.{arith}
use lib.ListN.{get_or, take}
use lib.Seq.{get_or-take, length-take-le}
use Rattle.model.specs.Message.{Message, atom}
use Rattle.model.specs.Case.{VA, MK, Table, Run, look}
use Rattle.model.specs.Values.{cell_of, Entry, Form, RightList}
use Rattle.model.proofs.Steps.{Comp}
use Rattle.model.proofs.Stored.{cell_own, cell_other}
use Rattle.theory.specs.Cells.{Formed, Grounds, class_at}
use Rattle.theory.specs.Level.{Mark, built}
use Rattle.theory.specs.Search.{State}
use Rattle.theory.proofs.Answers.{τ-reads}
use Rattle.theory.proofs.Step.{reply_yes}
use Rattle.knowledge.specs.Knowledge.{ClassRow}
use Rattle.solving.specs.Listing.{Valued, Entered, Listed}

-- ---- the list

module _ {T : Table} {n : ℕ} {rep out : List ℕ} (few : n ≤ 128) (w : Listed T n rep out n) where
  entry_form : (c x : ℕ) → Entered T n rep c x → Entry T n c x
  entry_form c x (Entered.value v (Valued.bound h s e)) = Entry.bound v (omega arith) (λ q. s (ap T (sym e) ∙ q))
  entry_form c x (Entered.value v (Valued.free f e)) = Entry.own v e
  entry_form c x (Entered.value v (Valued.beyond h e)) = Entry.own v e
  entry_form c x (Entered.itself s e) = Entry.itself s e

  pub list_form : Form T n (take n out)
  list_form = record {
    size = length-take-le n out (omega (arith, w.size));
    entries = λ c h. subst (Entry T n c) (sym (get_or-take n out c 0 h)) (entry_form c (get_or out c 0) (w.entries c h));
  }

  module _ (ev : Run) (ok : Formed T) (row : ClassRow n rep) (st : State T (class_at rep)) (vars : (v : ℕ) → T v ≡ VA → v < n)
      (τ : ℕ → Message) (τr : Grounds T (class_at rep) (λ y. atom 0) τ) (all : (p t : ℕ) → ev p ≡ some (MK t) → Mark T (class_at rep) ev p built t) where
    own_name : τ 128 ≡ atom 0
    own_name = τ-reads T (class_at rep) (λ y. atom 0) τ st.closed st.idem τr 128 ∙ ap (look (τ 128) τ) ok.name

    entry_right : (v x : ℕ) → T v ≡ VA → Entered T n rep v x → (class_at rep v ≡ class_at rep (cell_of x)) ⊎ ((T (class_at rep v) ≡ VA) × (τ (cell_of x) ≡ atom 0))
    entry_right v x e (Entered.value f (Valued.bound h s i)) = inl (cc (cell_other x (λ q. omega arith), row.idem v))
    entry_right v x e (Entered.value f (Valued.free g i)) = inr (g, ap τ (cell_own x i) ∙ own_name)
    entry_right v x e (Entered.value f (Valued.beyond h i)) = inl (cc (cell_own x i, row.idem v, row.beyond (class_at rep v) h))
    entry_right v x e (Entered.itself s i) = absurd (s e)

    pub list_right : RightList T ev (λ v. cell_of (get_or (take n out) v 0))
    list_right = reply_yes T ev (class_at rep) (λ y. atom 0) τ ok st τr (λ y. Comp.own) all (λ v. cell_of (get_or (take n out) v 0))
        (λ v e. subst (λ x. (class_at rep v ≡ class_at rep (cell_of x)) ⊎ ((T (class_at rep v) ≡ VA) × (τ (cell_of x) ≡ atom 0)))
        (sym (get_or-take n out v 0 (vars v e))) (entry_right v (get_or out v 0) e (w.entries v (vars v e))))
