-- The loop's invariant: the words are of the events of the records before `at`, `made` marks what their MKs hold, and reading on from there gives what the whole file is read as.
use mathlib.Core.List.{List}
use Prim.Native.Nat.{ℕ, ◌-◌, ◌≤◌}
use lib.ListN.{length}
use Rattle.model.specs.Case.{Cell}
use Rattle.casefile.specs.Events.{Context}
use Rattle.casefile.proofs.EventLoop.{EventsSoFar}
use Rattle.casefile.proofs.rest.read_events.Given as goal

abbrev pub invariant-loop-fault : goal.invariant-loop-fault
invariant-loop-fault l =
    (l.at ≤ length l.rest) × (l.run.count ≤ 128) × ((file : List ℕ) (cells : List Cell) → Context l.rest l.base l.table file cells → EventsSoFar l.base file cells l.at l.run l.made)

abbrev pub decreases-loop-fault : goal.decreases-loop-fault
decreases-loop-fault l = 128 - l.run.count
