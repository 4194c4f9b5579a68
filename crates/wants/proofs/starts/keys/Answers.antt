-- What is picked at a cell is told of it by key_at.
use borrow.Author.Rules.{rules}
use Rattle.wants.proofs.StartLaws.{keyed_picks}
use Rattle.wants.proofs.starts.keys.Goals as goal

pub returns : goal.returns
returns c = keyed_picks c.requires.class_row c.requires.mark_row (λ d k h p. search rules) c.picked.ensures
