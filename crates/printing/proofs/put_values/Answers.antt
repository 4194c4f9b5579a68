-- The loop's invariant: the lines of the variables below v stand from `at` on.
use mathlib.Core.Path.{refl, ◌∙◌}
use native.Mathlib.Omega.{arith}
use Rattle.model.specs.Stored.{table_in}
use Rattle.lines.proofs.PutLaws.{put_kept}
use Rattle.printing.proofs.LineLaws.{put_first, put_next}
use Rattle.printing.proofs.put_values.Goals as goal

pub loop-v-init : goal.loop-v-init
loop-v-init c =
    (omega arith, put_first (table_in c.args.words.now) c.args.list.now c.args.out.now c.args.at (omega (arith, c.requires.1)), omega arith, refl, c.requires.1, c.requires.0)

pub loop-v-preserved : goal.loop-v-preserved
loop-v-preserved c = (
  omega (arith, c.loop-v-test.true),
  put_next (table_in c.args.words.now) c.args.list.now c.args.out.now c.args.at c.loop-v.v c.loop-v.invariant.1 c.put_line-next.ensures.0,
  omega (arith, c.put_line-next.ensures.1, c.loop-v.invariant.2),
  put_kept c.put_line-next.ensures.0 ∙ c.loop-v.invariant.3,
  c.loop-v.invariant.4,
  c.loop-v.invariant.5,
)
