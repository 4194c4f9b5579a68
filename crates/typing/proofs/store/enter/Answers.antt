-- The word is there, or it is new.
use Rattle.typing.proofs.StoreLaws.{put_at, put_nowhere}
use Rattle.typing.proofs.store.enter.Goals as goal

pub returns-in-Some : goal.returns-in-Some
returns-in-Some c = put_at c.args.store.now c.args.word _ c.in-Some.ensures

pub returns-in-None : goal.returns-in-None
returns-in-None c = put_nowhere c.args.store.now c.args.word _ c.in-None.ensures c.add.ensures
