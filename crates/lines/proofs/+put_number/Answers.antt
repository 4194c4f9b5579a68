-- The tenth's digits, then the last one.
use native.Mathlib.Omega.{arith}
use Rattle.lines.proofs.PutLaws.{put_one, put_last, one_room, last_room, put_kept}
use Rattle.lines.proofs.+put_number.Goals as goal

pub put_digit-requires : goal.put_digit-requires
put_digit-requires t c = (c.if-n-lt10.true, omega (arith, c.requires, one_room c.args.n c.if-n-lt10.true))

pub returns-then-n-lt10 : goal.returns-then-n-lt10
returns-then-n-lt10 t c = put_one c.args.n c.if-n-lt10.true c.put_digit.ensures

pub put_number-last-requires : goal.put_number-last-requires
put_number-last-requires t c = (omega (arith, c.decreases, c.if-n-lt10.false), omega (arith, c.requires, last_room c.args.n c.if-n-lt10.false))

pub put_digit-requires-2 : goal.put_digit-requires-2
put_digit-requires-2 t c =
    let e = last_room c.args.n c.if-n-lt10.false in
    let k = put_kept c.put_number-last.ensures in
    (omega arith, omega (arith, c.requires, e, c.put_number-last.ensures.end, k))

pub returns : goal.returns
returns t c = put_last c.args.n c.if-n-lt10.false c.put_number-last.ensures c.put_digit-2.ensures
