-- From what is read of the bytes and what the search says to the promise; and that the promise settles the reply.
use mathlib.Core.Path.{◌≡◌, refl, sym, ◌∙◌, ap, subst}
use mathlib.Core.List.{List, ◌++◌}
use mathlib.Core.Logic.{inl, inr}
use Prim.Native.Nat.{ℕ, ◌≤◌}
use native.Mathlib.Decide.{dec_lt}
use native.Mathlib.Omega.{arith}
use lib.ListN.{length, take, drop}
use Rattle.std.specs.Prelude.{Option, Some, None, Result, Ok}
use Rattle.model.specs.Case.{File, WellFormed, table_of, run_of}
use Rattle.model.specs.Format.{read_file, Reading, refused, accepted}
use Rattle.model.specs.Stored.{table_in, run_in}
use Rattle.model.specs.Replies.{RightListed, NoneRight, SameButList}
use Rattle.model.proofs.Accepted.{Bytes, accepted_file}
use Rattle.model.proofs.Read.{clash, list_values}
use Rattle.model.proofs.Settled.{NoOrList, refusals_alike, answers_alike}
use Rattle.solving.specs.Searches.{Solves}
use Rattle.casefile.specs.declared.Case.{Case}
use Rattle.casefile.proofs.CaseFile.{CaseFile, case_count, case_table, case_run}
use Rattle.refusals.specs.declared.Refusal.{Refusal}
use Rattle.running.specs.Promise.{Answered, RunPromise}

-- ---- what the search says of the words that were read, said of the file

module _ {file : List ℕ} {r : Case} (w : CaseFile file r) (b : Bytes file) where
  pub case_formed : WellFormed (table_in r.table.words) (run_in r.run.count r.run.words)
  case_formed = subst (λ T. WellFormed T (run_in r.run.count r.run.words)) (sym (case_table w b))
      (subst (WellFormed (table_of w.f.cells)) (sym (case_run w)) (accepted_file file w.f w.read).formed)

  pub case_solved : (s : Option (List ℕ)) →
      Solves (table_in r.table.words) r.table.count (run_in r.run.count r.run.words) s →
      Solves (table_of w.f.cells) (length w.f.cells) (run_of w.f.events) s
  case_solved s h =
      subst (λ n. Solves (table_of w.f.cells) n (run_of w.f.events) s) (case_count w)
      (subst (λ T. Solves T r.table.count (run_of w.f.events) s) (case_table w b)
      (subst (λ ev. Solves (table_in r.table.words) r.table.count ev s) (case_run w) h))

-- ---- the promise

module _ (file before : List ℕ) (f : File) (r : read_file file ≡ accepted f) where
  -- The bytes are read as one file.
  one : {g : File} → read_file file ≡ accepted g → f ≡ g
  one {g} e = let z : accepted f ≡ accepted g = sym r ∙ e in cc

  one_length : {g : File} → read_file file ≡ accepted g → length f.cells ≡ length g.cells
  one_length e = ap (λ (g : File). length g.cells) (one e)

  module _ (room : length f.cells ≤ length before) where
    pub promise_no : Solves (table_of f.cells) (length f.cells) (run_of f.events) None → RunPromise file before (Ok None) before
    promise_no w = record {
      refused = λ n p i. clash (cc);
      short = λ g i h. absurd (omega (arith, one_length i));
      replied = λ g q. inl refl;
      no = λ g q _. (subst NoneRight (one q.read) w.none, refl);
      yes = λ g q i. clash (cc);
    }

    pub promise_yes : (list : List ℕ) → Solves (table_of f.cells) (length f.cells) (run_of f.events) (Some list) → (front : List ℕ) → front ≡ take (length f.cells) list →
        RunPromise file before (Ok (Some (length f.cells))) (front ++ drop (length f.cells) before)
    promise_yes list w front k = record {
      refused = λ n p i. clash (cc);
      short = λ g i h. absurd (omega (arith, one_length i));
      replied = λ g q. inr (ap (λ n. Ok (Some n)) (one_length q.read));
      no = λ g q i. clash (cc);
      yes = λ g q _. (take (length f.cells) list, subst (λ g. RightListed g (take (length f.cells) list)) (one q.read) (w.form, w.right), rw (k, w.form.size) refl);
    }

-- ---- the promise, of the words that were read

module _ {file : List ℕ} {r : Case} (w : CaseFile file r) (before : List ℕ) (b : Bytes file) (room : r.table.count ≤ length before) where
  enough : length w.f.cells ≤ length before
  enough = omega (arith, case_count w)

  pub reply_no : Solves (table_in r.table.words) r.table.count (run_in r.run.count r.run.words) None → RunPromise file before (Ok None) before
  reply_no h = promise_no file before w.f w.read enough (case_solved w b None h)

  pub reply_yes : (list : List ℕ) → Solves (table_in r.table.words) r.table.count (run_in r.run.count r.run.words) (Some list) →
      (front : List ℕ) → front ≡ take r.table.count list → RunPromise file before (Ok (Some r.table.count)) (front ++ drop r.table.count before)
  reply_yes list h front =
      subst (λ n. front ≡ take n list → RunPromise file before (Ok (Some n)) (front ++ drop n before)) (sym (case_count w))
      (promise_yes file before w.f w.read enough list (case_solved w b (Some list) h) front)

-- ---- the promise settles the reply

-- A right list and "no" exclude each other.
pub no_and_yes : (file : List ℕ) (f : File) (list : List ℕ) → read_file file ≡ accepted f → NoneRight f → RightListed f list → ⊥
no_and_yes file f list read none (form, right) = let (ρ, r) = list_values (table_of f.cells) (run_of f.events) _ (accepted_file file f read).lower right in none ρ r

module _ (file before : List ℕ) (r r' : Result (Option ℕ) Refusal) (after after' : List ℕ) (p : RunPromise file before r after) (p' : RunPromise file before r' after') where
  pub settled : (r ≡ r') × SameButList RightListed file before after after'
  settled = go (read_file file) refl
    where
      replies : (f : File) → Answered file before f → {r : Result (Option ℕ) Refusal} {after : List ℕ} → RunPromise file before r after →
          NoOrList (Ok None) (Ok (Some (length f.cells))) (NoneRight f) (RightListed f) before r after
      replies f q p = record { replied = p.replied f q; never = p.no f q; listed = p.yes f q }

      go : (x : Reading) → read_file file ≡ x → (r ≡ r') × SameButList RightListed file before after after'
      go (refused n at) e = refusals_alike RightListed file before (p.refused n at e) (p'.refused n at e)
      go (accepted f) e = elim (dec_lt (length before) (length f.cells)) [
        | yes s ↦ refusals_alike RightListed file before (p.short f e s) (p'.short f e s)
        | no s ↦
            (let q : Answered file before f = record { read = e; room = omega arith } in
            answers_alike RightListed file before f e (λ list w. w.0.size) (λ none list w. no_and_yes file f list e none w) (replies f q p) (replies f q p'))
      ]
