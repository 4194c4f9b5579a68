-- By what the cell is composed of.
use native.Mathlib.Omega.{arith}
use Rattle.theory.proofs.Decides.{decides_no}
use Rattle.reducing.specs.Bare.{BuiltClass}
use Rattle.reducing.proofs.PartLaws.{low_made_one, low_made_two}
use Rattle.reducing.proofs.IdleLaws.{idle_one, idle_right, idle_two}
use Rattle.reducing.proofs.kept.is_idle.Goals as goal

pub has-requires-clause-x_bound : goal.has-requires-clause-x_bound
has-requires-clause-x_bound c = low_made_one c.requires.1 c.in-One.is c.made_of.ensures

pub has-requires-in-Two-clause-x_bound : goal.has-requires-in-Two-clause-x_bound
has-requires-in-Two-clause-x_bound c = let (x, y) = low_made_two c.requires.1 c.in-Two.is c.made_of.ensures in omega arith

pub has-requires-then-has-clause-x_bound : goal.has-requires-then-has-clause-x_bound
has-requires-then-has-clause-x_bound c = let (x, y) = low_made_two c.requires.1 c.in-Two.is c.made_of.ensures in omega arith

pub returns-in-One : goal.returns-in-One
returns-in-One c = idle_one (BuiltClass c.args.rep.now c.args.built.now) c.in-One.is c.made_of.ensures c.has.ensures

pub returns-then-has : goal.returns-then-has
returns-then-has c = idle_two (BuiltClass c.args.rep.now c.args.built.now) c.in-Two.is c.made_of.ensures (c.has-in-Two.ensures.yes c.if-has.true) c.has-then-has.ensures

pub returns-else-has : goal.returns-else-has
returns-else-has c = rw c.if-has.false (decides_no (idle_right (BuiltClass c.args.rep.now c.args.built.now) c.in-Two.is c.made_of.ensures (c.has-in-Two.ensures.no c.if-has.false)))
