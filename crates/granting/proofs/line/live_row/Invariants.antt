-- The invariant: the count is at least `before`, and at most 254 if that is.
use Prim.Native.Nat.{◌≤◌}
use Rattle.granting.proofs.line.live_row.Given as goal

abbrev pub invariant-loop-d : goal.invariant-loop-d
invariant-loop-d g l = (l.before ≤ l.k) × (l.before ≤ 254 → l.k ≤ 254)
