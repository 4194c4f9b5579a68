-- `knowledge::newly` meets its contract: the tests are the fields of `Newly`, one after the other.
use mathlib.Core.Path.{sym, ◌∙◌}
use Rattle.model.specs.Stored.{table_in}
use Rattle.knowledge.proofs.AtCell.{newly_made}
use Rattle.knowledge.proofs.newly.Goals as goal

pub returns-else-is_given : goal.returns-else-is_given
returns-else-is_given c =
    newly_made (table_in c.args.table.now.words) c.args.rep.now c.args.seen.now c.args.built.now c.args.c c.cell_within-k.ensures (sym c.class_within.ensures ∙ c.if-class_within-c.false) c.if-built-c-eq1.false
    c.if-seen-c-eq1.false (c.is_given.ensures.no c.if-is_given.false) c.is_made.ensures
