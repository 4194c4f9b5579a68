-- The reply to the run, told in lines; the counts and the table are those of the file that was read.
use borrow.Author.Rules.{rules}
use mathlib.Core.Path.{refl, sym, subst}
use Rattle.model.proofs.Accepted.{Bytes}
use Rattle.casefile.proofs.CaseFile.{case_refused, case_accepted}
use Rattle.printing.specs.Lines.{Lines}
use Rattle.printing.proofs.PromiseLaws.{place_few, run_no_lem, run_yes_lem, no_text, yes_text, promise_written}
use Rattle.printing.proofs.write_reply.Goals as goal

pub put_refusal-requires : goal.put_refusal-requires
put_refusal-requires c =
    let e = case_refused c.args.file.now c.read_case.result c.read_case.ensures c.in-Err.refusal c.in-Err.is in
    (place_few c.args.file.now _ _ e, c.if-out-lt1437.false)

pub returns-in-Err : goal.returns-in-Err
returns-in-Err c =
    let e = case_refused c.args.file.now c.read_case.result c.read_case.ensures c.in-Err.refusal c.in-Err.is in
    promise_written c.if-out-lt1437.false (Lines.refusal _ _ e) c.put_refusal.ensures

pub returns-in-Ok-None : goal.returns-in-Ok-None
returns-in-Ok-None c =
    let w = case_accepted c.args.file.now c.read_case.result c.read_case.ensures c.in-Ok.case c.in-Ok.is in
    let none = run_no_lem c.args.file.now _ _ refl c.run.ensures w.f w.read (cc) in
    promise_written c.if-out-lt1437.false (subst (Lines c.args.file.now) (sym (no_text w)) (Lines.no w.f w.read none)) c.put_no.ensures

pub returns-in-Ok-Some : goal.returns-in-Ok-Some
returns-in-Ok-Some c =
    let w = case_accepted c.args.file.now c.read_case.result c.read_case.ensures c.in-Ok.case c.in-Ok.is in
    let (l, right, k) = run_yes_lem c.args.file.now _ _ refl c.run.ensures w.f w.read c.in-Ok-Some.field-0-0 (cc) in
    let bytes : Bytes c.args.file.now = λ j. search rules in
    promise_written c.if-out-lt1437.false (subst (Lines c.args.file.now) (sym (yes_text w bytes l _ _ right.0.size k)) (Lines.yes w.f l w.read right)) c.put_yes.ensures
