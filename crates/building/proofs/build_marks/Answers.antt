-- `building::build_marks` keeps its promise: each way out cites the law of its reply.
use mathlib.Core.Path.{refl}
use native.Mathlib.Omega.{arith}
use borrow.Author.Rules.{rules}
use Rattle.model.proofs.Accepted.{Bytes}
use Rattle.knowledge.proofs.ClassRows.{kept_row}
use Rattle.casefile.proofs.CaseFile.{case_accepted}
use Rattle.building.proofs.CaseLaws.{answer_marks}
use Rattle.building.proofs.build_marks.Goals as goal

pub open_heard-known-requires : goal.open_heard-known-requires
open_heard-known-requires c =
    record { run_words = c.in_ok-case.case.listed }

pub lay_marks-requires : goal.lay_marks-requires
lay_marks-requires c =
    let words = c.in_ok-case.case.table.formed in
    record { n_bound = words.few; by_index = (kept_row words c.open_heard-known.ensures.classes.solved.kept).low; n_in_bounds = c.if-out-n.false }

pub returns : goal.returns
returns c =
    let every : Bytes c.args.file.now = λ i. omega (arith, c.type_inv.file i) in
    let w = case_accepted c.args.file.now _ c.in_ok-case.ensures c.in_ok-case.case refl in
    answer_marks w (search rules) c.args.out.now every c.open_heard-known.ensures c.if-out-n.false c.lay_marks.ensures
