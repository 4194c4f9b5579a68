-- `reducing::reduce` keeps its promise: each reply to a file without variables cites its law.
use native.Mathlib.Omega.{arith}
use Rattle.model.proofs.Accepted.{Bytes}
use Rattle.casefile.proofs.CaseFile.{case_accepted, case_events}
use Rattle.reducing.proofs.CaseLaws.{case_solid, answer_short, answer_reduced}
use Rattle.reducing.proofs.reduce.Goals as goal

pub plan_run-plan-requires : goal.plan_run-plan-requires
plan_run-plan-requires c =
    let fits : Bytes c.args.file.now = λ i. omega (arith, c.type_inv.file i) in
    let w = case_accepted c.args.file.now c.read_case.result c.read_case.ensures c.in_ok-case.case c.in_ok-case.was in
    record { solid = case_solid w fits c.in_default.is; run_words = case_events w }

pub returns-then-out-length : goal.returns-then-out-length
returns-then-out-length c =
    let fits : Bytes c.args.file.now = λ i. omega (arith, c.type_inv.file i) in
    let w = case_accepted c.args.file.now c.read_case.result c.read_case.ensures c.in_ok-case.case c.in_ok-case.was in
    let p = c.plan_run-plan.ensures in
    answer_short w fits c.in_default.is p.sized p.reduced c.args.out.now _ c.needed-length.ensures.1 c.if-out-length.true

pub returns : goal.returns
returns c =
    let fits : Bytes c.args.file.now = λ i. omega (arith, c.type_inv.file i) in
    let w = case_accepted c.args.file.now c.read_case.result c.read_case.ensures c.in_ok-case.case c.in_ok-case.was in
    let p = c.plan_run-plan.ensures in
    answer_reduced w fits c.in_default.is p.sized p.reduced c.args.out.now _ _ c.needed-length.ensures.1 c.if-out-length.false c.write_plan.ensures
