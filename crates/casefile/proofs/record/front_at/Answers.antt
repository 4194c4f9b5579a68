-- By what stands where the mark is due.
use lib.ListN.{drop}
use borrow.Author.Rules.{rules}
use Rattle.casefile.proofs.RecordLaws.{front_known, front_fault}
use Rattle.casefile.proofs.record.front_at.Goals as goal

pub fields_at-requires : goal.fields_at-requires
fields_at-requires c = front_known (drop c.args.at c.args.file.now) c.in_ok-kind.ensures

pub returns-in_err-kind : goal.returns-in_err-kind
returns-in_err-kind c = let h = front_fault (drop c.args.at c.args.file.now) c.in_err-kind.ensures in search rules
