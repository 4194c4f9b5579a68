-- The invariant is what is promised, for the events passed.
use Rattle.model.specs.Stored.{run_in}
use Rattle.knowledge.specs.Heard.{LearntAll}
use Rattle.knowledge.proofs.heard.learnt_before.Given as goal

abbrev pub invariant-loop-q : goal.invariant-loop-q
invariant-loop-q l = LearntAll l.rep (run_in l.count l.run) l.q l.seen
