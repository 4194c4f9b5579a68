-- The parts of the line, one behind the other: each number has at most twenty digits.
use mathlib.Core.Path.{sym}
use native.Mathlib.Omega.{arith}
use borrow.Author.Rules.{rules}
use Rattle.lines.proofs.PutLaws.{put_join, put_kept, twenty_digits}
use Rattle.enter.proofs.refusal.lay_refusal.Goals as goal

pub put_told-numbered-requires : goal.put_told-numbered-requires
put_told-numbered-requires c = omega (arith, c.requires, twenty_digits c.number-number.result (omega arith))

pub put_told-placed-requires : goal.put_told-placed-requires
put_told-placed-requires c =
    let a = twenty_digits c.number-number.result (omega arith) in
    let b = twenty_digits c.args.refusal.place (search rules) in
    omega (arith, c.requires, c.put_told-numbered.ensures.end, put_kept c.put_told-numbered.ensures)

pub put_told-lined-requires : goal.put_told-lined-requires
put_told-lined-requires c =
    let a = twenty_digits c.number-number.result (omega arith) in
    let b = twenty_digits c.args.refusal.place (search rules) in
    let d = twenty_digits c.args.spot.line (search rules) in
    omega (arith, c.requires, c.put_told-numbered.ensures.end, c.put_told-placed.ensures.end, put_kept c.put_told-numbered.ensures, put_kept c.put_told-placed.ensures)

pub put_told-columned-requires : goal.put_told-columned-requires
put_told-columned-requires c =
    let a = twenty_digits c.number-number.result (omega arith) in
    let b = twenty_digits c.args.refusal.place (search rules) in
    let d = twenty_digits c.args.spot.line (search rules) in
    let e = twenty_digits c.args.spot.column (search rules) in
    omega (
      arith,
      c.requires,
      c.put_told-numbered.ensures.end,
      c.put_told-placed.ensures.end,
      c.put_told-lined.ensures.end,
      put_kept c.put_told-numbered.ensures,
      put_kept c.put_told-placed.ensures,
      put_kept c.put_told-lined.ensures,
    )

pub put_text-requires : goal.put_text-requires
put_text-requires c =
    let a = twenty_digits c.number-number.result (omega arith) in
    let b = twenty_digits c.args.refusal.place (search rules) in
    let d = twenty_digits c.args.spot.line (search rules) in
    let e = twenty_digits c.args.spot.column (search rules) in
    omega (
      arith,
      c.requires,
      c.put_told-numbered.ensures.end,
      c.put_told-placed.ensures.end,
      c.put_told-lined.ensures.end,
      c.put_told-columned.ensures.end,
      put_kept c.put_told-numbered.ensures,
      put_kept c.put_told-placed.ensures,
      put_kept c.put_told-lined.ensures,
      put_kept c.put_told-columned.ensures,
    )

pub returns : goal.returns
returns c =
    rw (sym c.number-number.ensures)
    (put_join c.put_told-numbered.ensures (put_join c.put_told-placed.ensures (put_join c.put_told-lined.ensures (put_join c.put_told-columned.ensures c.put_text.ensures))))
