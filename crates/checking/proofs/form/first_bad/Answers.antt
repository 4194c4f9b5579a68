-- What the search over the cells says of the first that does not fit.
use borrow.Author.Rules.{rules}
use borrow.Author.Tests.{tests}
use Prim.Native.Nat.{ℕ}
use lib.ListN.{get_or}
use Rattle.std.proofs.lemmas.Iterator.{first_from_Range}
use Rattle.model.specs.Stored.{table_in}
use Rattle.model.specs.Values.{Entry}
use Rattle.checking.proofs.FormLaws.{first_bad}
use Rattle.checking.proofs.form.first_bad.Goals as goal

pub returns : goal.returns
returns c =
    first_bad (table_in c.args.table.now.words) c.args.table.now.count c.args.list.now c.find.result (first_from_Range _ _ _ c.find.result (λ (d : ℕ). Entry (table_in c.args.table.now.words) c.args.table.now.count d (get_or c.args.list.now d 0) → ⊥)
    (λ (d : ℕ). Entry (table_in c.args.table.now.words) c.args.table.now.count d (get_or c.args.list.now d 0)) c.find.ensures.ran
    (λ x q k. search (rules, tests)) (λ x q k. search (rules, tests)))
