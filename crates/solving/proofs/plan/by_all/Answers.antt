-- The wanted cells and the bare ones, each by its contract.
use Rattle.knowledge.proofs.ClassRows.{kept_row}
use Rattle.solving.proofs.plan.by_all.Goals as goal

pub wanted-want-requires : goal.wanted-want-requires
wanted-want-requires c =
    let s = c.requires in
    record { class_row = kept_row c.args.table.now.formed s.kept; mark_row = s.mark_row; mark_row_2 = s.mark_row_2; run_words = s.run_words }

pub bares-bare-requires : goal.bares-bare-requires
bares-bare-requires c = record { class_row = kept_row c.args.table.now.formed c.requires.kept }
