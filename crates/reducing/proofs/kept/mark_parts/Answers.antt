-- A store for each part of the cell.
use mathlib.Core.Path.{◌≡◌, sym, ◌∙◌, ap, subst}
use lib.ListN.{length, set}
use Rattle.theory.specs.Cells.{class_at}
use Rattle.cells.specs.Cells.{as_cell}
use Rattle.reducing.specs.Bare.{Adds}
use Rattle.reducing.proofs.PartLaws.{low_one, low_two}
use Rattle.reducing.proofs.KeepLaws.{adds_one, adds_two}
use borrow.Author.Rules.{rules}
use Rattle.reducing.proofs.kept.mark_parts.Goals as goal

pub mark_class-requires : goal.mark_class-requires
mark_class-requires c = (c.requires.0, low_one c.requires.1 (sym c.parts_of.ensures ∙ c.in-One.is))

pub mark_class-requires-in-Two : goal.mark_class-requires-in-Two
mark_class-requires-in-Two c = (c.requires.0, (low_two c.requires.1 (sym c.parts_of.ensures ∙ c.in-Two.is)).1)

pub mark_class-requires-in-Two-2 : goal.mark_class-requires-in-Two-2
mark_class-requires-in-Two-2 c = (c.requires.0, (low_two c.requires.1 (sym c.parts_of.ensures ∙ c.in-Two.is)).0)

pub returns-in-One : goal.returns-in-One
returns-in-One c =
    let size : length c.args.marks.now ≡ 129 = search rules in
    subst (Adds c.args.rep.now c.args.marks.now (as_cell c.args.k)) (sym c.mark_class.ensures)
    (adds_one c.args.rep.now c.args.marks.now size (as_cell c.args.k) (sym c.parts_of.ensures ∙ c.in-One.is) (c.requires.0 c.in-One.a))

pub returns-in-Two : goal.returns-in-Two
returns-in-Two c =
    let size : length c.args.marks.now ≡ 129 = search rules in
    subst (Adds c.args.rep.now c.args.marks.now (as_cell c.args.k)) (sym (c.mark_class-in-Two-2.ensures ∙ ap (λ l. set l (class_at c.args.rep.now c.in-Two.a) 1) c.mark_class-in-Two.ensures))
    (adds_two c.args.rep.now c.args.marks.now size (as_cell c.args.k) (sym c.parts_of.ensures ∙ c.in-Two.is) (c.requires.0 c.in-Two.b) (c.requires.0 c.in-Two.a))
