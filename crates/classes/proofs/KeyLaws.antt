-- Whether a cell has parts; cells that are alike share this, and their key.
use mathlib.Core.Path.{◌≡◌, refl}
use Prim.Native.Nat.{ℕ}
use Rattle.model.specs.Case as case
use Rattle.model.specs.Case.{AT, VA, ONE, TWO}
use Rattle.model.proofs.Read.{clash}
use Rattle.theory.specs.Classes.{Alike, atoms, ones, twos}
use Rattle.cells.specs.Cells.{parts_of}
use Rattle.cells.specs.declared.Parts.{Parts}
use Rattle.cells.specs.declared.Parts.TheVariants as parts
use Rattle.classes.specs.Links.{key_of, Parted, one, two}

pub alike_key : {cls : ℕ → ℕ} {k k' : case.Cell} → Alike cls k k' → key_of cls k ≡ key_of cls k'
unfolding key_of
alike_key atoms = refl
alike_key (ones e) = rw e
alike_key (twos e i) = rw (e, i)

-- ---- cells with parts

pub no_parts : (k : case.Cell) → parts.None ≡ parts_of k → Parted k → ⊥
no_parts (AT _) e h = elim h [ ]
no_parts VA e h = elim h [ ]
no_parts (ONE g a) e one = clash (cc)
no_parts (TWO h l r) e two = clash (cc)

pub some_parts : (k : case.Cell) (p : Parts) → p ≡ parts_of k → (p ≡ parts.None → ⊥) → Parted k
some_parts (AT n) p e ne = absurd (ne e)
some_parts VA p e ne = absurd (ne e)
some_parts (ONE g a) p e ne = one
some_parts (TWO h l r) p e ne = two

pub alike_parted : {A : Type 0} {f : ℕ → A} {k k' : case.Cell} → Alike f k k' → Parted k → Parted k'
alike_parted atoms h = elim h [ ]
alike_parted (ones e) one = one
alike_parted (twos e i) two = two
