-- Where c is not seen, or not kin to itself, it is not bare; else it is if a part is not built.
use borrow.Author.Tests.{eqb-true, eqb-false, not-false, not-true}
use Rattle.theory.proofs.Decides.{decides_no}
use Rattle.wants.proofs.StartLaws.{bare_unkin, bare_decides}
use Rattle.wants.proofs.starts.is_bare.Goals as goal
use Rattle.wants.proofs.starts.is_bare.Goals.{then-seen-c-ne1-via-then-seen-c-ne1, then-seen-c-ne1-via-else-seen-c-ne1+then-not-kin_at}

pub returns-then-seen-c-ne1 : goal.returns-then-seen-c-ne1
returns-then-seen-c-ne1 c =
    elim c.then-seen-c-ne1.branch [
      | then-seen-c-ne1-via-then-seen-c-ne1 w ↦ decides_no (λ b. w.if-seen-c-ne1.true b.whole)
      | then-seen-c-ne1-via-else-seen-c-ne1+then-not-kin_at w ↦ decides_no (bare_unkin
          (w.kin_at.ensures.no w.if-not-kin_at.true))
    ]

pub returns-then-built-e-ne1 : goal.returns-then-built-e-ne1
returns-then-built-e-ne1 c =
    bare_decides c.ends-e.ensures
    (c.kin_at.ensures.yes c.if-not-kin_at.false) c.if-seen-c-ne1.false (λ _ o _. c.if-built-e-ne1.true o) (λ i. absurd (c.if-built-e-ne1.true (eqb-true _ _ (not-false _ i))))

pub returns-else-built-e-ne1 : goal.returns-else-built-e-ne1
returns-else-built-e-ne1 c =
    bare_decides c.ends-e.ensures
    (c.kin_at.ensures.yes c.if-not-kin_at.false) c.if-seen-c-ne1.false (λ i _ o. eqb-false _ _ (not-true _ i) o) (λ i. (c.if-built-e-ne1.false, eqb-true _ _ (not-false _ i)))
