-- What was read stands in front, and is the first of the reader's bytes.
use borrow.Author.Rules.{rules}
use Rattle.std.proofs.KnownBytes.{Consumes-trans}
use Rattle.input.proofs.Filling.{more_read}
use Rattle.input.proofs.read_start.Goals as goal

pub loop-done-preserved : goal.loop-done-preserved
loop-done-preserved g c = record {
  inside = search rules;
  long = search rules;
  bytes = rw (more_read c.loop-done.start c.read.new.buf c.loop-done.done _ c.in_ok-n.n c.loop-done.invariant.inside c.in_ok-n.ensures.bound.0)
      (Consumes-trans _ _ _ _ _ c.loop-done.invariant.bytes c.in_ok-n.ensures.bytes.0);
}
