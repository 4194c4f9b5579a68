-- From the reply to the run and what was read to the lines; and that the promise settles the text but for the list shown.
use mathlib.Core.Path.{◌≡◌, refl, sym, ◌∙◌, ap, ap₂, subst}
use mathlib.Core.List.{List, ◌++◌}
use mathlib.Core.Logic.{inl, inr}
use Prim.Native.Nat.{ℕ, ◌<◌, ◌≤◌}
use native.Mathlib.Decide.{dec_lt}
use native.Mathlib.Omega.{arith}
use lib.ListN.{length, take}
use lib.Seq.{take-take}
use Rattle.std.specs.Prelude.{Option, Some, None, Result, Ok}
use Rattle.model.specs.Case.{File, Table, table_of}
use Rattle.model.specs.Format.{read_file, refused, accepted}
use Rattle.model.specs.Stored.{table_in}
use Rattle.model.specs.Replies.{RightListed, NoneRight, laid}
use Rattle.model.proofs.Read.{clash}
use Rattle.model.proofs.Accepted.{Bytes, accepted_file}
use Rattle.model.proofs.Places.{refused_place}
use Rattle.model.proofs.Prefix.{read_file_prefix}
use Rattle.refusals.specs.declared.Refusal.{Refusal}
use Rattle.running.specs.Promise.{Answered, RunPromise}
use Rattle.running.proofs.PromiseLaws.{no_and_yes}
use Rattle.casefile.specs.declared.Case.{Case}
use Rattle.casefile.proofs.CaseFile.{CaseFile, case_count, case_table}
use Rattle.printing.specs.Lines.{Lines, refused_line, counts_line, yes_line, no_line, no_lines, yes_lines, value_lines}
use Rattle.printing.specs.Promise.{Written, ReplyPromise, SameButValues, same, values}
use Rattle.lines.specs.Put.{Put}
use Rattle.printing.proofs.PutLaws.{put_laid}
use Rattle.printing.proofs.LineLaws.{lines_laid}

-- ---- what a run says that had room for a list

module _ (file before list : List ℕ) (room : length before ≡ 128) {reply : Result (Option ℕ) Refusal} (p : RunPromise file before reply list) (f : File) (e : read_file file ≡ accepted f) where
  answered : Answered file before f
  answered = record { read = e; room = (let h = (accepted_file file f e).few_cells in omega arith) }

  pub run_no_lem : reply ≡ Ok None → NoneRight f
  run_no_lem i = (p.no f answered i).0

  pub run_yes_lem : (n : ℕ) → reply ≡ Ok (Some n) → (l : List ℕ) × RightListed f l × (list ≡ laid l before)
  run_yes_lem n i = elim (p.replied f answered) [ inl z ↦ clash (cc) | inr z ↦ p.yes f answered z ]

-- The place of a refusal has at most three digits.
pub place_few : (file : List ℕ) (n p : ℕ) → read_file file ≡ refused n p → p < 1000
place_few file n p e = let h = (refused_place file n p e).2 in omega arith

-- ---- what was read

module _ {file : List ℕ} {r : Case} (w : CaseFile file r) where
  pub case_events : r.run.count ≡ length w.f.events
  case_events = ap (λ u. u.count) w.holds.run

  counts_text : counts_line r.table.count r.run.count ≡ counts_line (length w.f.cells) (length w.f.events)
  counts_text = ap₂ counts_line (case_count w) case_events

  pub no_text : counts_line r.table.count r.run.count ++ no_line ≡ no_lines w.f
  no_text = ap (λ l. l ++ no_line) counts_text

  -- The lines of the table that was read are those of the file's.
  values_text : Bytes file → (l before list : List ℕ) → length l ≡ length w.f.cells → list ≡ laid l before → value_lines (table_in r.table.words) list r.table.count ≡ value_lines (table_of w.f.cells) l (length w.f.cells)
  values_text bytes l before list size i =
      let n = r.table.count in
      ap (λ (T : Table). value_lines T list n) (case_table w bytes) ∙
      (ap (λ (k : List ℕ). value_lines (table_of w.f.cells) k n) i ∙
      (lines_laid (table_of w.f.cells) l before n (size ∙ sym (case_count w)) ∙ ap (value_lines (table_of w.f.cells) l) (case_count w)))

  pub yes_text : Bytes file → (l before list : List ℕ) → length l ≡ length w.f.cells → list ≡ laid l before →
      counts_line r.table.count r.run.count ++ (yes_line ++ value_lines (table_in r.table.words) list r.table.count) ≡ yes_lines w.f l
  yes_text bytes l before list size i =
      ap (λ c. c ++ (yes_line ++ value_lines (table_in r.table.words) list r.table.count)) counts_text ∙
      ap (λ v. counts_line (length w.f.cells) (length w.f.events) ++ (yes_line ++ v)) (values_text bytes l before list size i)

-- ---- the promise

pub promise_short : (file before : List ℕ) → length before < 1437 → ReplyPromise file before 0 before
promise_short file before h = record { short = λ _. (refl, refl); written = λ k. absurd (omega arith) }

pub promise_written : {file text before after : List ℕ} {r : ℕ} → 1437 ≤ length before → Lines file text → Put text before 0 after r → ReplyPromise file before r after
promise_written {text = text} h l p =
    let e = p.end in
    record { short = λ k. absurd (omega arith); written = λ _. (text, l, record { size = omega arith; room = p.room; bytes = put_laid p }) }

-- ---- it settles the reply

settled_written : (file before text text' after after' : List ℕ) (n n' : ℕ) → Lines file text → Lines file text' → Written text before n after → Written text' before n' after' →
    SameButValues file before n n' after after'
settled_written file before text text' after after' n n' l l' w w' = go l l' w w'
  where
    equal : (t t' : List ℕ) → t ≡ t' → Written t before n after → Written t' before n' after' → SameButValues file before n n' after after'
    equal t t' e w w' = same (w.size ∙ (ap length e ∙ sym w'.size)) (w.bytes ∙ (ap (λ t. laid t before) e ∙ sym w'.bytes))

    go : {t t' : List ℕ} → Lines file t → Lines file t' → Written t before n after → Written t' before n' after' → SameButValues file before n n' after after'
    go (Lines.refusal m q e) (Lines.refusal m' q' e') w w' =
        let z : refused m q ≡ refused m' q' = sym e ∙ e' in
        let i : m ≡ m' = cc in
        let j : q ≡ q' = cc in
        equal (refused_line m q) (refused_line m' q') (ap (λ x. refused_line x q) i ∙ ap (refused_line m') j) w w'
    go (Lines.refusal m q e) (Lines.no f e' _) w w' = clash (cc)
    go (Lines.refusal m q e) (Lines.yes f list e' _) w w' = clash (cc)
    go (Lines.no f e _) (Lines.refusal m q e') w w' = clash (cc)
    go (Lines.no f e _) (Lines.no g e' _) w w' = let z : accepted f ≡ accepted g = sym e ∙ e' in let i : f ≡ g = cc in equal (no_lines f) (no_lines g) (ap no_lines i) w w'
    go (Lines.no f e none) (Lines.yes g list e' right) w w' =
        let z : accepted g ≡ accepted f = sym e' ∙ e in
        let i : g ≡ f = cc in
        absurd (no_and_yes file f list e none (subst (λ f. RightListed f list) i right))
    go (Lines.yes f list e _) (Lines.refusal m q e') w w' = clash (cc)
    go (Lines.yes f list e right) (Lines.no g e' none) w w' =
        let z : accepted f ≡ accepted g = sym e ∙ e' in
        let i : f ≡ g = cc in
        absurd (no_and_yes file g list e' none (subst (λ f. RightListed f list) i right))
    go (Lines.yes f list e right) (Lines.yes g list' e' right') w w' =
        let z : accepted g ≡ accepted f = sym e' ∙ e in
        let i : g ≡ f = cc in
        values f list list' e right (subst (λ f. RightListed f list') i right') w (subst (λ f. Written (yes_lines f list') before n' after') i w')

pub settled : (file before : List ℕ) (n n' : ℕ) (after after' : List ℕ) → ReplyPromise file before n after → ReplyPromise file before n' after' → SameButValues file before n n' after after'
settled file before n n' after after' p p' = elim (dec_lt (length before) 1437) [
  | yes h ↦ (let (i, e) = p.short h in let (i', e') = p'.short h in same (i ∙ sym i') (e ∙ sym e'))
  | no h ↦
      (let (t, l, w) = p.written (omega arith) in
      let (t', l', w') = p'.written (omega arith) in
      settled_written file before t t' after after' n n' l l' w w')
]

-- ---- the first 899 bytes of a file are enough

lines_read : {file file' text : List ℕ} → read_file file ≡ read_file file' → Lines file text → Lines file' text
lines_read i (Lines.refusal n q e) = Lines.refusal n q (sym i ∙ e)
lines_read i (Lines.no f e none) = Lines.no f (sym i ∙ e) none
lines_read i (Lines.yes f list e right) = Lines.yes f list (sym i ∙ e) right

pub promise_prefix : (file before : List ℕ) (k n : ℕ) (after : List ℕ) → 899 ≤ k → ReplyPromise (take k file) before n after → ReplyPromise file before n after
promise_prefix file before k n after h p = record { short = p.short; written = λ r. (let (t, l, w) = p.written r in (t, lines_read cut l, w)) }
  where
    cut : read_file (take k file) ≡ read_file file
    cut = read_file_prefix (take k file) ∙ (ap read_file (take-take 899 k file h) ∙ sym (read_file_prefix file))
