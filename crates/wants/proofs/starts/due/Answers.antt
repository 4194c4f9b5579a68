-- What is picked at an event is told of it by due_at.
use borrow.Author.Rules.{rules}
use Rattle.knowledge.proofs.Grow.{none_marked}
use Rattle.wants.proofs.StartLaws.{due_picks}
use Rattle.wants.proofs.starts.due.Goals as goal

pub returns : goal.returns
returns c = due_picks c.requires.class_row none_marked (λ q k h p. search rules) c.picked.ensures
