-- Two answers of a function of this crate that keep its contract are equal.
use mathlib.Core.Path.{◌≡◌, refl, sym, ◌∙◌, ap}
use Prim.Native.Nat.{ℕ}
use Rattle.model.specs.Message.{App, Two}
use Rattle.model.specs.Case as case
use Rattle.model.specs.Case.{AT, VA, ONE, TWO, MK, LN}
use Rattle.model.proofs.Read.{clash}
use Rattle.theory.specs.Classes.{Alike, Likes}
use Rattle.cells.specs.Cells.{as_cell, as_event, MadeOf, Opens, Meets, none, one, two, shut, open_pair, locked, unlike, same}
use Rattle.cells.specs.declared.Cell.{Cell}
use Rattle.cells.specs.declared.Cell.TheVariants as cell
use Rattle.cells.specs.declared.Event.{Event}
use Rattle.cells.specs.declared.Event.TheVariants as event
use Rattle.cells.specs.declared.Parts.{Parts}
use Rattle.cells.specs.declared.Opening.{Opening}
use Rattle.cells.specs.declared.Meeting.{Meeting}

-- The cell taken apart.
abbrev apart : case.Cell → Cell
apart (AT n) = cell.Atom n
apart VA = cell.Variable
apart (ONE (App f) a) = cell.Apply f a
apart (TWO Two.Pair l r) = cell.Pair l r
apart (TWO Two.Seal b k) = cell.Seal b k

apart_as : (r : Cell) → apart (as_cell r) ≡ r
apart_as (cell.Atom n) = refl
apart_as cell.Variable = refl
apart_as (cell.Pair l r) = refl
apart_as (cell.Seal b k) = refl
apart_as (cell.Apply f a) = refl

pub cell_settled : (r s : Cell) → as_cell r ≡ as_cell s → r ≡ s
cell_settled r s e = sym (apart_as r) ∙ ap apart e ∙ apart_as s

pub event_settled : (r s : Event) → as_event r ≡ as_event s → r ≡ s
event_settled (event.Make c) (event.Make d) e = cc
event_settled (event.Make c) (event.Learn d) e = clash (cc)
event_settled (event.Learn c) (event.Make d) e = clash (cc)
event_settled (event.Learn c) (event.Learn d) e = cc

module _ {k : case.Cell} where
  pub made_of_settled : {r s : Parts} → MadeOf k r → MadeOf k s → r ≡ s
  made_of_settled (none n) (none m) = refl
  made_of_settled (none n) (one e m) = absurd (n _ _ m)
  made_of_settled (none n) (two e m) = absurd (n _ _ m)
  made_of_settled (one e m) (none n) = absurd (n _ _ m)
  made_of_settled (one e m) (one f n) = cc
  made_of_settled (one e m) (two f n) = clash (cc)
  made_of_settled (two e m) (none n) = absurd (n _ _ m)
  made_of_settled (two e m) (one f n) = clash (cc)
  made_of_settled (two e m) (two f n) = cc

  pub opens_settled : {r s : Opening} → Opens k r → Opens k s → r ≡ s
  opens_settled (shut p q) (shut p' q') = refl
  opens_settled (shut p q) (open_pair e) = absurd (p _ _ e)
  opens_settled (shut p q) (locked e) = absurd (q _ _ e)
  opens_settled (open_pair e) (shut p q) = absurd (p _ _ e)
  opens_settled (open_pair e) (open_pair f) = cc
  opens_settled (open_pair e) (locked f) = clash (cc)
  opens_settled (locked e) (shut p q) = absurd (q _ _ e)
  opens_settled (locked e) (open_pair f) = clash (cc)
  opens_settled (locked e) (locked f) = cc

module _ {k l : case.Cell} where
  like_names : {n : ℕ} → k ≡ AT n → l ≡ AT n → Alike {A = Unit} (λ d. tt) k l
  like_names e f = rw (e, f) Likes.atoms

  pub meet_settled : {r s : Meeting} → Meets k l r → Meets k l s → r ≡ s
  meet_settled (unlike n) (unlike m) = refl
  meet_settled (unlike n) (same e f) = absurd (n (like_names e f))
  meet_settled (unlike n) (Meets.ones e f) = absurd (n (rw (e, f) (Likes.ones refl)))
  meet_settled (unlike n) (Meets.twos e f) = absurd (n (rw (e, f) (Likes.twos refl refl)))
  meet_settled (same e f) (unlike n) = absurd (n (like_names e f))
  meet_settled (same e f) (same e' f') = refl
  meet_settled (same e f) (Meets.ones e' f') = clash (cc)
  meet_settled (same e f) (Meets.twos e' f') = clash (cc)
  meet_settled (Meets.ones e f) (unlike n) = absurd (n (rw (e, f) (Likes.ones refl)))
  meet_settled (Meets.ones e f) (same e' f') = clash (cc)
  meet_settled (Meets.ones e f) (Meets.ones e' f') = cc
  meet_settled (Meets.ones e f) (Meets.twos e' f') = clash (cc)
  meet_settled (Meets.twos e f) (unlike n) = absurd (n (rw (e, f) (Likes.twos refl refl)))
  meet_settled (Meets.twos e f) (same e' f') = clash (cc)
  meet_settled (Meets.twos e f) (Meets.ones e' f') = clash (cc)
  meet_settled (Meets.twos e f) (Meets.twos e' f') = cc
