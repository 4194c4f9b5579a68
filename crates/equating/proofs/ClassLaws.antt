-- What solved classes, and the lack of them, say of two cells of a table.
use mathlib.Core.Path.{◌≡◌, sym, ◌∙◌}
use mathlib.Core.List.{List}
use mathlib.Core.Logic.{inl, inr}
use Prim.Native.Nat.{ℕ, ◌<◌}
use native.Mathlib.Decide.{dec_lt}
use native.Mathlib.Omega.{arith}
use lib.ListN.{get_or}
use Rattle.model.specs.Message.{Message, atom}
use Rattle.model.specs.Case.{VA, Table, message}
use Rattle.model.specs.Values.{Equates, EquatingList}
use Rattle.model.specs.Stored.{table_in}
use Rattle.model.proofs.Read.{message_self, var?}
use Rattle.theory.specs.Cells.{TableWords, class_at}
use Rattle.theory.proofs.Answers.{equate_yes_lem}
use Rattle.theory.proofs.Rows.{rows_var}
use Rattle.classes.specs.Kept.{Never}
use Rattle.classes.specs.Settle.{Unified}
use Rattle.classes.specs.Twins.{Start}
use Rattle.classes.proofs.RowLaws.{class_low}
use Rattle.classes.proofs.SolvedLaws.{solved_grounds}
use Rattle.equating.specs.Entries.{list_of}
use Rattle.equating.proofs.ListLaws.{length_list_of, list_of_at, list_of_past, entry_var, entry_own}
use Rattle.equating.proofs.EndsLaws.{equates_same}

module _ (n : ℕ) (words : List ℕ) (w : TableWords n words) where
  abbrev T : Table
  T = table_in words

  -- The entry of a variable is the cell that stands for its class; any other cell has its own number.
  list_var : (rep : List ℕ) (v : ℕ) → T v ≡ VA → class_at rep v ≡ get_or (list_of T rep n) v v
  list_var rep v t =
      let h = rows_var w v t in
      sym (list_of_at T rep n v v h ∙ (entry_var (get_or rep v 0) v t ∙ class_low rep v (omega (arith, w.few))))

  list_own : (rep : List ℕ) (c : ℕ) → (T c ≡ VA → ⊥) → get_or (list_of T rep n) c c ≡ c
  list_own rep c s = elim (dec_lt c n) [
    | yes h ↦ list_of_at T rep n c c h ∙ entry_own (T c) (get_or rep c 0) c s
    | no h ↦ list_of_past T rep n c c (omega arith)
  ]

  -- Both are cells of the table, as a class is named by one.
  list_inside : (rep : List ℕ) → ((c : ℕ) → c < n → class_at rep c < n) → (c : ℕ) → c < n → get_or (list_of T rep n) c c < n
  list_inside rep inside c h = elim (var? (T c)) [
    | inl t ↦ (let l = inside c h in let z = list_var rep c t in omega arith)
    | inr s ↦ (let z = list_own rep c s in omega arith)
  ]

  module _ (first : List ℕ) (start : Start n T first) (a b : ℕ) where
    pub classes_never : Never T (class_at first) a b → (ρ : ℕ → Message) → message (table_in words) ρ a ≡ message (table_in words) ρ b → ⊥
    classes_never never ρ e = let m = message_self T ρ w.lower in never (message T ρ) m (start.met (message T ρ) m) e

    classes_equate : (rep : List ℕ) → Unified n T first a b rep → Equates T a b (class_at rep)
    classes_equate rep u =
        let s = u.solved in
        let (τ, g) = solved_grounds n T rep s (λ y. atom 0) in
        equate_yes_lem T (class_at rep) (λ y. atom 0) τ s.closed s.kept.reps.idem g a b w.lower s.kept.reps.lowest
        (λ m mr. (λ e. (u.sat m mr).0 (start.met m mr, e), λ l. ((u.sat m mr).1 l).1))

    pub classes_list : (rep : List ℕ) → Unified n T first a b rep → EquatingList (table_in words) n a b (list_of (table_in words) rep n)
    classes_list rep u = record {
      size = length_list_of T rep n;
      cells = list_inside rep u.solved.kept.inside;
      own = list_own rep;
      equates = equates_same T (class_at rep) (λ v. get_or (list_of T rep n) v v) (list_var rep) a b (classes_equate rep u);
    }
