-- The number has at most three digits.
use native.Mathlib.Omega.{arith}
use Rattle.printing.proofs.PutLaws.{told_short}
use Rattle.printing.proofs.put_told.Goals as goal

pub put_told-requires : goal.put_told-requires
put_told-requires c = omega (arith, c.requires.1, told_short c.args.text.now c.args.n c.requires.0)

pub returns : goal.returns
returns c = (c.put_told.ensures, omega (arith, c.put_told.ensures.end, told_short c.args.text.now c.args.n c.requires.0))
