-- A refused file is replied to as it was read; then the two numbers and the buffer are tested, and the classes of the two cells in one, with all that this asks for, decide.
use mathlib.Core.Path.{refl}
use native.Mathlib.Omega.{arith}
use Rattle.casefile.proofs.CaseFile.{case_accepted}
use Rattle.equating.proofs.PromiseLaws.{case_inside, reply_no, reply_listed}
use Rattle.equating.proofs.equate.Goals as goal

pub unify-requires : goal.unify-requires
unify-requires c =
    let w = case_accepted c.args.file.now _ c.in_ok-case.ensures c.in_ok-case.case refl in
    record { kept = c.start-start.ensures.solved.kept; a_lt_n = case_inside w c.args.a c.args.b c.args.out.now (c.outside.ensures.no c.if-outside.false) }

pub returns-in_default : goal.returns-in_default
returns-in_default c =
    let w = case_accepted c.args.file.now _ c.in_ok-case.ensures c.in_ok-case.case refl in
    reply_no w c.args.a c.args.b c.args.out.now (c.outside.ensures.no c.if-outside.false) c.if-out-n.false (λ i. omega (arith, c.type_inv.file i))
    c.start-start.result c.start-start.ensures c.in_default.ensures

pub returns : goal.returns
returns c =
    let w = case_accepted c.args.file.now _ c.in_ok-case.ensures c.in_ok-case.case refl in
    reply_listed w c.args.a c.args.b c.args.out.now (c.outside.ensures.no c.if-outside.false) c.if-out-n.false (λ i. omega (arith, c.type_inv.file i))
    c.start-start.result c.start-start.ensures c.in-Some.rep c.in-Some.ensures _ c.write_list.ensures
