-- The replies of build marks, by the words of an accepted file.
use mathlib.Core.Path.{◌≡◌, sym, subst}
use mathlib.Core.List.{List}
use Prim.Native.Nat.{ℕ, ◌≤◌}
use native.Mathlib.Omega.{arith}
use lib.ListN.{length}
use Rattle.model.specs.Case.{table_of, run_of}
use Rattle.model.specs.Stored.{table_in, run_in}
use Rattle.model.proofs.Accepted.{Bytes}
use Rattle.casefile.specs.declared.Case.{Case}
use Rattle.casefile.proofs.CaseFile.{CaseFile, case_free, case_count, case_table, case_run}
use Rattle.knowledge.specs.declared.heard.Knowledge.{Knowledge}
use Rattle.knowledge.specs.Heard.{HeardOpened, FileKnown}
use Rattle.knowledge.proofs.HeardLaws.{file_known}
use Rattle.std.specs.Prelude.{None, Ok}
use Rattle.building.specs.Lay.{Lays}
use Rattle.building.specs.Promise.{MarksPromise}
use Rattle.building.proofs.PromiseLaws.{promise_marks}

module _ {file : List ℕ} {r : Case} (w : CaseFile file r) (free : r.variable ≡ None) (before : List ℕ) where
  module _ (bytes : Bytes file) {k : Knowledge} (h : HeardOpened r.table.count (table_in r.table.words) (run_in r.run.count r.run.words) k) where
    -- What is opened from the words is known of the file.
    case_known : FileKnown w.f k
    case_known = file_known file w.f w.read (case_free w free)
        (subst (λ n. HeardOpened n (table_of w.f.cells) (run_of w.f.events) k) (case_count w)
        (subst (λ T. HeardOpened r.table.count T (run_of w.f.events) k) (case_table w bytes)
        (subst (λ ev. HeardOpened r.table.count (table_in r.table.words) ev k) (case_run w) h)))

    pub answer_marks : {after : List ℕ} → r.table.count ≤ length before → Lays r.table.count k.rep k.built before after →
        MarksPromise file before (Ok r.table.count) after
    answer_marks {after} l y =
        subst (λ n. MarksPromise file before (Ok n) after) (sym (case_count w))
        (promise_marks file before w.f w.read (case_free w free) (omega (arith, case_count w)) case_known (subst (λ n. Lays n k.rep k.built before after) (case_count w) y))
