-- By what the parts are.
use Rattle.theory.proofs.Decides.{decides_yes, decides_no}
use Rattle.cells.specs.Cells.{as_cell}
use Rattle.classes.proofs.KeyLaws.{no_parts, some_parts}
use Rattle.classes.proofs.upward.has_parts.Goals as goal
use Rattle.classes.proofs.upward.has_parts.Goals.{in-None, in_default}

pub returns : goal.returns
returns c = elim c.match-matches.branch [
  | in-None w ↦ rw w.matches-is (decides_no (no_parts (as_cell c.args.k) (rw w.in-None.is at c.parts_of.ensures)))
  | in_default w ↦ rw w.matches-is (decides_yes (some_parts (as_cell c.args.k) c.parts_of.result c.parts_of.ensures w.in_default.not-None))
]
