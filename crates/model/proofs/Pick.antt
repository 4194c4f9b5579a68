-- A case picked by a test: what each side needs to be the pick.
use mathlib.Core.Path.{◌≡◌}
use mathlib.Core.Bool.{Bool, true, false, cond}

pub yes : {A : Type 0} {b : Bool} {x : A} (y : A) → b ≡ true → x ≡ cond b x y
yes y e = rw e

pub into : {A : Type 0} {b : Bool} {r x : A} (y : A) → b ≡ true → r ≡ x → r ≡ cond b x y
into y e h = rw e h

pub no : {A : Type 0} {b : Bool} {r y : A} (x : A) → b ≡ false → r ≡ y → r ≡ cond b x y
no x e h = rw e h
