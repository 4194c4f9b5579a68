-- Cells that clash or cannot be unified are never equal; else the classes are joined and closed upwards.
use Rattle.solving.proofs.ChildLaws.{unified_raised}
use Rattle.solving.proofs.search.joined.Goals as goal

pub returns : goal.returns
returns c = unified_raised _ _ _ _ _ _ _ c.in_ok-out.ensures c.raise.ensures
