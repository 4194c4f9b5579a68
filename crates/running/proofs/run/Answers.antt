-- The words that were read are those of the file, and what the search says of them decides the reply.
use borrow.Author.Rules.{rules}
use Rattle.model.proofs.Accepted.{Bytes}
use Rattle.casefile.proofs.CaseFile.{case_accepted, case_events}
use Rattle.running.proofs.PromiseLaws.{case_formed, reply_no, reply_yes}
use Rattle.running.proofs.run.Goals as goal

pub solve-requires : goal.solve-requires
solve-requires c =
    let w = case_accepted c.args.file.now c.read_case.result c.read_case.ensures c.in_ok-case.case c.in_ok-case.was in
    let b : Bytes c.args.file.now = λ i. search rules in
    record { run_words = case_events w; well_formed = case_formed w b }

pub returns-in_default : goal.returns-in_default
returns-in_default c =
    let w = case_accepted c.args.file.now c.read_case.result c.read_case.ensures c.in_ok-case.case c.in_ok-case.was in
    let b : Bytes c.args.file.now = λ i. search rules in
    search (rules, reply_no w c.args.out.now b c.if-out-n.false)

pub returns : goal.returns
returns c =
    let w = case_accepted c.args.file.now c.read_case.result c.read_case.ensures c.in_ok-case.case c.in_ok-case.was in
    let b : Bytes c.args.file.now = λ i. search rules in
    let h = reply_yes w c.args.out.now b c.if-out-n.false c.in-Some.list c.in-Some.ensures c.copy_from_slice.new.self c.copy_from_slice.ensures.after in
    search rules
