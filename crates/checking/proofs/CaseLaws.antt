-- What the words of an accepted file say of a value list, and the replies by them.
use mathlib.Core.Path.{◌≡◌, refl, sym, ◌∙◌, ap, subst}
use mathlib.Core.List.{List}
use Prim.Native.Nat.{ℕ}
use lib.ListN.{length}
use Rattle.std.specs.Prelude.{Option, Some, None, Bool, true, false, Ok}
use Rattle.refusals.specs.Refused.{Refused}
use Rattle.model.specs.Case.{Table, Run, table_of}
use Rattle.model.specs.Stored.{table_in, run_in}
use Rattle.model.specs.Values.{Form, RightList}
use Rattle.model.specs.Replies.{FormOf, RightOf}
use Rattle.model.proofs.Accepted.{Bytes}
use Rattle.theory.specs.Cells.{TableWords, RunWords}
use Rattle.theory.specs.Decides.{Decides}
use Rattle.casefile.specs.declared.Case.{Case}
use Rattle.casefile.proofs.CaseFile.{CaseFile, case_count, case_table, case_run, case_words, case_events}
use Rattle.checking.specs.Form.{FirstBad, entry_cell}
use Rattle.checking.specs.Promise.{CheckPromise}
use Rattle.checking.proofs.PromiseLaws.{promise_form, promise_right, promise_wrong}

module _ {file : List ℕ} {r : Case} (w : CaseFile file r) (bytes : Bytes file) (list : List ℕ) (l : length list ≡ r.table.count) where
  -- What the first entry of bad form is in the words, it is in the file.
  first : (bad : Option ℕ) → FirstBad (table_in r.table.words) r.table.count list bad → FirstBad (table_of w.f.cells) (length w.f.cells) list bad
  first bad b = subst (λ n. FirstBad (table_of w.f.cells) n list bad) (case_count w) (subst (λ T. FirstBad T r.table.count list bad) (case_table w bytes) b)

  pub judged_form : {c : ℕ} → FirstBad (table_in r.table.words) r.table.count list (Some c) → CheckPromise file list (Refused 10 c)
  judged_form {c} b = let (h, good, bad) = first (Some c) b in promise_form file list w.f w.read (l ∙ case_count w) c h good bad

  -- A list without an entry of bad form has the form, in the file and in its words.
  module _ (b : FirstBad (table_in r.table.words) r.table.count list None) where
    form : FormOf w.f list
    form = record { size = l ∙ case_count w; entries = first None b }

    pub judged_words : TableWords r.table.count r.table.words × (RunWords r.table.count r.run.words r.run.count
        × Form (table_in r.table.words) r.table.count list)
    judged_words = (case_words w bytes, (case_events w, record { size = l; entries = b }))

    abbrev RightWords : Type 0
    RightWords = RightList (table_in r.table.words) (run_in r.run.count r.run.words) (entry_cell list)

    -- The list is right in the words exactly if it is right in the file.
    right_is : RightWords ≡ RightOf w.f list
    right_is =
        ap (λ (T : Table). RightList T (run_in r.run.count r.run.words) (entry_cell list)) (case_table w bytes)
        ∙ ap (λ (ev : Run). RightList (table_of w.f.cells) ev (entry_cell list)) (case_run w)

    pub judged_right : (b : Bool) → Decides b RightWords → CheckPromise file list (Ok b)
    judged_right true d = promise_right file list w.f w.read form (subst (λ (A : Type 0). A) right_is (d.yes refl))
    judged_right false d = promise_wrong file list w.f w.read form (λ x. d.no refl (subst (λ (A : Type 0). A) (sym right_is) x))
