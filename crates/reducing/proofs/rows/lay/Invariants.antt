-- The cells below i are told; each turn adds one behind them.
use mathlib.Core.Path.{◌≡◌}
use lib.ListN.{length}
use Rattle.reducing.specs.Plan.{Laid}
use Rattle.reducing.proofs.rows.lay.Given as goal

abbrev pub invariant-loop-i : goal.invariant-loop-i
invariant-loop-i l = Laid l.words l.rep l.numbers.old l.numbers.new l.bare l.i l.plan × (length l.bare ≡ 129)
