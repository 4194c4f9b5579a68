-- Parts stand lower: from the last cell down, what is marked from c on is closed under parts.
use Prim.Native.Nat.{◌+◌, ◌-◌}
use mathlib.Core.Path.{◌≡◌, subst}
use native.Mathlib.Omega.{arith}
use lib.ListN.{length}
use Rattle.model.specs.Stored.{table_in}
use Rattle.reducing.specs.Bare.{Adds}
use Rattle.reducing.proofs.KeepLaws.{Keeping, keeping_start, keeping_add, keeping_end}
use borrow.Author.Rules.{rules}
use Rattle.reducing.proofs.kept.keep.Goals as goal

pub loop-c-init : goal.loop-c-init
loop-c-init c =
    let size : length c.args.bare.now ≡ 129 = search rules in
    (omega arith, keeping_start c.args.table.now.count c.args.table.now.words c.args.rep.now c.args.bare.now c.requires.0 c.requires.1 size)

pub loop-c-preserved-then-marks-c-eq1 : goal.loop-c-preserved-then-marks-c-eq1
loop-c-preserved-then-marks-c-eq1 c =
    let i = c.loop-c.c - 1 in
    let z : c.loop-c.c ≡ i + 1 = omega arith in (
      omega arith,
      keeping_add c.args.table.now.count c.args.table.now.words c.args.rep.now c.args.bare.now c.requires.0 c.requires.1 i c.loop-c.marks
          (subst (λ i. Keeping (table_in c.args.table.now.words) c.args.rep.now c.args.bare.now i c.loop-c.marks) z c.loop-c.invariant.1)
          c.mark_parts.new.marks c.if-marks-c-eq1.true (subst (λ k. Adds c.args.rep.now c.loop-c.marks k c.mark_parts.new.marks) c.cell_at.ensures c.mark_parts.ensures),
    )

pub returns : goal.returns
returns c =
    let z : c.loop-c.c ≡ 0 = omega arith in
    keeping_end c.args.table.now.count c.args.table.now.words c.args.rep.now c.args.bare.now c.requires.0 c.requires.1 c.loop-c.marks
    (subst (λ i. Keeping (table_in c.args.table.now.words) c.args.rep.now c.args.bare.now i c.loop-c.marks) z c.loop-c.invariant.1)
