-- The measure is how many levels down are still looked at.
use Rattle.granting.proofs.line.+cost.Given as goal

abbrev pub decreases-cost : goal.decreases-cost
decreases-cost l = l.at.levels
