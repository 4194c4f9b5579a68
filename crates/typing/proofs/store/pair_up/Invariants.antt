-- The pairs of the items from i on are entered.
use Rattle.typing.proofs.StoreLaws.{PairedFrom}
use Rattle.typing.proofs.store.pair_up.Given as goal

abbrev pub invariant-loop-i : goal.invariant-loop-i
invariant-loop-i l = PairedFrom l.initial.store l.items l.last l.i l.store l.behind
