-- A cell is picked if the second row marks it.
use borrow.Author.Rules.{rules}
use Rattle.wants.proofs.StartLaws.{joint_picks}
use Rattle.wants.proofs.sets.joint.Goals as goal

pub returns : goal.returns
returns c = joint_picks (λ d k h p. search rules) c.picked.ensures
