-- The loop's invariant: best is c or a fellow, and if the links are right, no cell that they have led past is a lower one.
use native.Mathlib.Omega.{arith}
use borrow.Author.Rules.{rules}
use Rattle.classes.proofs.LinkLaws.{walk_start, walk_take, walk_skip}
use Rattle.classes.proofs.upward.fellow.Goals as goal

pub loop-at-init : goal.loop-at-init
loop-at-init c = (c.requires.top_le_c.0, search rules, λ h. absurd (omega arith), λ w. walk_start w)

pub loop-at-preserved-then-is_fellow : goal.loop-at-preserved-then-is_fellow
loop-at-preserved-then-is_fellow c =
    let less = c.requires.by_index c.from-i.result in (
      omega arith,
      omega arith,
      λ _. rw (c.from.ensures, c.from-i.ensures) at (c.is_fellow.ensures.yes c.if-is_fellow.true),
      λ w. rw c.from-i.ensures (walk_take w (c.loop-at.invariant.3 w) (omega arith) (omega arith)),
    )

pub loop-at-preserved : goal.loop-at-preserved
loop-at-preserved c =
    let less = c.requires.by_index c.from-i.result in
    (omega arith, c.loop-at.invariant.1, c.loop-at.invariant.2, λ w. walk_skip w (c.loop-at.invariant.3 w) (omega arith) (omega arith) (rw c.from.ensures at (c.is_fellow.ensures.no c.if-is_fellow.false)))
