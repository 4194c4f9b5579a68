-- The steps' contracts joined: what is bare, kept, numbered and laid is the reduced file.
use Rattle.reducing.proofs.ReducedLaws.{keeps_whole, plan_sized, plan_reduced}
use Rattle.reducing.proofs.make_plan.Goals as goal

pub order-numbers-requires : goal.order-numbers-requires
order-numbers-requires c = (
  c.requires,
  c.heights-high.ensures,
  keeps_whole c.args.table.now.count c.args.table.now.words c.args.rep.now c.args.built.now c.bare-bares.result c.keep-kept.result c.requires c.bare-bares.ensures c.keep-kept.ensures,
)

pub returns : goal.returns
returns c =
    record {
      sized = plan_sized c.args.table.now.count c.args.table.now.words c.args.rep.now c.args.built.now c.bare-bares.result c.keep-kept.result c.requires c.bare-bares.ensures c.keep-kept.ensures
          c.order-numbers.result.old c.order-numbers.result.new c.order-numbers.result.count c.lay.result c.order-numbers.ensures c.lay.ensures;
      reduced = plan_reduced c.args.table.now.count c.args.table.now.words c.args.rep.now c.args.built.now c.bare-bares.result c.keep-kept.result c.requires c.bare-bares.ensures c.keep-kept.ensures
          c.order-numbers.result.old c.order-numbers.result.new c.order-numbers.result.count c.lay.result c.order-numbers.ensures c.lay.ensures;
    }
