-- Each reply by its law: the first entry of bad form, and whether the list is right.
use native.Mathlib.Omega.{arith}
use borrow.Author.Rules.{rules}
use Rattle.casefile.proofs.CaseFile.{CaseFile, case_accepted}
use Rattle.checking.proofs.CaseLaws.{judged_form, judged_words, judged_right}
use Rattle.checking.proofs.check.Goals as goal
use Rattle.checking.proofs.check.Goals.{In_ok-case}

accepted : (c : In_ok-case) → CaseFile c.args.file.now c.in_ok-case.case
accepted c = case_accepted c.args.file.now c.read_case.result c.read_case.ensures c.in_ok-case.case c.in_ok-case.was

pub returns-in-Some : goal.returns-in-Some
returns-in-Some c =
    rw c.bad_list-in-Some.ensures (judged_form (accepted (goal.at.returns-in-Some c).In_ok-case) (λ i. omega (arith, c.type_inv.file i)) c.args.list.now (omega arith) c.in-Some.ensures)

pub is_right-requires : goal.is_right-requires
is_right-requires c =
    let (w, (e, f)) = judged_words (accepted (goal.at.is_right-requires c).In_ok-case) (λ i. omega (arith, c.type_inv.file i)) c.args.list.now (omega arith) c.in_default.ensures in
    record { run_words = e; form = f }

pub returns : goal.returns
returns c =
    let right = judged_right (accepted (goal.at.returns c).In_ok-case) (λ i. omega (arith, c.type_inv.file i)) c.args.list.now (omega arith) c.in_default.ensures c.is_right.result c.is_right.ensures in
    search (rules, right)
