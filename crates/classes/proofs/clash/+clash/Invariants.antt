-- The measure is the number of levels.
use Rattle.classes.proofs.clash.+clash.Given as goal

abbrev pub decreases-clash : goal.decreases-clash
decreases-clash l = l.levels
