-- A cell is picked if it is bare.
use borrow.Author.Rules.{rules}
use Rattle.wants.proofs.StartLaws.{bares_picks}
use Rattle.wants.proofs.starts.bares.Goals as goal

pub returns : goal.returns
returns c = bares_picks (λ d k h p. search rules) c.picked.ensures
