-- The marks of one part or of two.
use mathlib.Core.Path.{sym, ◌∙◌}
use native.Mathlib.Omega.{arith}
use borrow.Author.Rules.{rules}
use Rattle.cells.specs.Cells.{as_cell}
use Rattle.casefile.proofs.WithinLaws.{one_part, two_parts, mark_one, mark_two}
use Rattle.casefile.proofs.rest.mark_parts.Goals as goal

pub bounds-marks-from : goal.bounds-marks-from
bounds-marks-from c =
    let h = c.requires _ (one_part (as_cell c.args.k) (sym c.parts_of.ensures ∙ c.in-One.is)) in
    omega (arith, c.from.ensures)

pub bounds-marks-from-in-Two : goal.bounds-marks-from-in-Two
bounds-marks-from-in-Two c =
    let h = c.requires _ (two_parts (as_cell c.args.k) (sym c.parts_of.ensures ∙ c.in-Two.is)).0 in
    omega (arith, c.from-in-Two.ensures)

pub bounds-marks-from-in-Two-2 : goal.bounds-marks-from-in-Two-2
bounds-marks-from-in-Two-2 c =
    let h = c.requires _ (two_parts (as_cell c.args.k) (sym c.parts_of.ensures ∙ c.in-Two.is)).1 in
    omega (arith, c.from-in-Two-2.ensures)

pub returns-in-One : goal.returns-in-One
returns-in-One c =
    let e = sym c.parts_of.ensures ∙ c.in-One.is in
    rw c.from.ensures (mark_one (as_cell c.args.k) c.args.marks.now (search rules) e (c.requires _ (one_part (as_cell c.args.k) e)))

pub returns-in-Two : goal.returns-in-Two
returns-in-Two c =
    let e = sym c.parts_of.ensures ∙ c.in-Two.is in
    let (q, r) = two_parts (as_cell c.args.k) e in
    rw (c.from-in-Two.ensures, c.from-in-Two-2.ensures) (mark_two (as_cell c.args.k) c.args.marks.now (search rules) e (c.requires _ q) (c.requires _ r))
