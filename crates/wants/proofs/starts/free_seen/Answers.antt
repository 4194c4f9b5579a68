-- A cell is picked if it is free and seen.
use borrow.Author.Rules.{rules}
use Rattle.wants.proofs.StartLaws.{free_picks}
use Rattle.wants.proofs.starts.free_seen.Goals as goal

pub returns : goal.returns
returns c = free_picks c.requires.mark_row (λ d k h p. search rules) c.picked.ensures
