-- From the reader's reply back to the file: what the callers of `read_case` know of its words.
use mathlib.Core.Path.{◌≡◌, refl, sym, ◌∙◌, ap, ap₂, subst, fun_ext}
use mathlib.Core.List.{List}
use mathlib.Core.Option.{Option, some, none}
use Prim.Native.Nat.{ℕ}
use lib.ListN.{length}
use Rattle.std.specs.Prelude.{Some, None, Result, Ok, Err}
use Rattle.refusals.specs.declared.Refusal.{Refusal}
use Rattle.refusals.specs.Numbers.{number_of, fault_of}
use Rattle.refusals.specs.Refused.{Refused}
use Rattle.refusals.proofs.Numbers.{fault_numbered}
use Rattle.model.specs.Case.{File, table_of, run_of}
use Rattle.model.specs.Format.{Reading, read_file, first_variable}
use Rattle.model.specs.Stored.{table_in, run_in}
use Rattle.model.proofs.Read.{clash}
use Rattle.model.proofs.Accepted.{Bytes}
use Rattle.theory.specs.Cells.{TableWords, RunWords}
use Rattle.theory.proofs.Rows.{accepted_table, accepted_run}
use Rattle.casefile.specs.declared.case.Case.{Case}
use Rattle.casefile.specs.Case.{found_at, Holds, Reads}

-- The case is what is read of the accepted file f.
pub record CaseFile (file : List ℕ) (case : Case) : Type 0 where
  pub f : File
  pub read : read_file file ≡ Reading.accepted f
  pub holds : Holds f case

module _ (file : List ℕ) (r : Result Case Refusal) (reply : Reads (read_file file) r) where
  replied : {x : Reading} → read_file file ≡ x → Reads x r
  replied e = subst (λ x. Reads x r) e reply

  pub case_refused : (e : Refusal) → r ≡ Err e → read_file file ≡ Reading.refused (number_of e.fault) e.place
  case_refused e v = go (read_file file) refl
    where
      go : (x : Reading) → read_file file ≡ x → read_file file ≡ Reading.refused (number_of e.fault) e.place
      go (Reading.refused n p) h =
          let (number, place) = subst (Reads (Reading.refused n p)) v (replied h) in
          h ∙ ap₂ Reading.refused (sym number) (sym place)
      go (Reading.accepted f) h = absurd (subst (Reads (Reading.accepted f)) v (replied h))

  pub case_accepted : (case : Case) → r ≡ Ok case → CaseFile file case
  case_accepted case v = go (read_file file) refl
    where
      go : (x : Reading) → read_file file ≡ x → CaseFile file case
      go (Reading.refused n p) h = absurd (subst (Reads (Reading.refused n p)) v (replied h))
      go (Reading.accepted f) h = record { f = f; read = h; holds = subst (Reads (Reading.accepted f)) v (replied h) }

-- A reply of any sort that hands on the refusal is the refusal of the reading.
pub case_told : {A : Type 0} (file : List ℕ) (e : Refusal) → Reads (read_file file) (Err e) → (n p : ℕ) → read_file file ≡ Reading.refused n p → ◌≡◌ {A = Result A Refusal} (Err e) (Refused n p)
case_told file e v n p h =
    let (number, place) = subst (λ x. Reads x (Err e)) h v in
    ap₂ (λ fault place. Err (record { fault = fault; place = place })) (sym (fault_numbered e.fault) ∙ ap fault_of number) place

found_some : (o : Option ℕ) (at : ℕ) → found_at o ≡ Some at → o ≡ some at
found_some none at e = clash (cc)
found_some (some x) at e = cc

found_none : (o : Option ℕ) → found_at o ≡ None → o ≡ none
found_none none e = refl
found_none (some x) e = clash (cc)

module _ {file : List ℕ} {case : Case} (w : CaseFile file case) where
  pub case_variable : (at : ℕ) → case.variable ≡ Some at → first_variable w.f.cells ≡ some at
  case_variable at e = found_some (first_variable w.f.cells) at (sym w.holds.variable ∙ e)

  pub case_free : case.variable ≡ None → first_variable w.f.cells ≡ none
  case_free e = found_none (first_variable w.f.cells) (sym w.holds.variable ∙ e)

  -- The words of the case keep what the words of a file keep,
  pub case_words : Bytes file → TableWords case.table.count case.table.words
  case_words b = case.table.formed

  pub case_events : RunWords case.table.count case.run.words case.run.count
  case_events = case.listed

  -- and what lies in them is the file's.
  pub case_count : case.table.count ≡ length w.f.cells
  case_count = w.holds.count

  pub case_table : Bytes file → table_in case.table.words ≡ table_of w.f.cells
  case_table b = ap table_in w.holds.words ∙ fun_ext (accepted_table file w.f b w.read)

  pub case_run : run_in case.run.count case.run.words ≡ run_of w.f.events
  case_run = ap (λ e. run_in e.count e.words) w.holds.run ∙ fun_ext (accepted_run file w.f w.read)
