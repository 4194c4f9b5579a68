-- Answers that tell whether something holds: literal ones, tests of numbers, and the same of another statement; two that tell one thing are equal.
use mathlib.Core.Path.{◌≡◌, refl}
use mathlib.Core.Bool.{Bool, true, false, not, true≢false, false≢true}
use Prim.Native.Nat.{ℕ, ◌<◌}
use native.Mathlib.Omega.{arith}
use lib.Dec.{eqb, ltb}
use borrow.Author.Tests.{eqb-true, eqb-false, ltb-true, ltb-false, not-true, not-false}
use Rattle.theory.specs.Decides.{Decides}

pub decides_yes : {P : Type 0} → P → Decides true P
decides_yes x = record { yes = λ e. x; no = λ e. absurd (true≢false e) }

pub decides_no : {P : Type 0} → (P → ⊥) → Decides false P
decides_no f = record { yes = λ e. absurd (false≢true e); no = λ e. f }

pub decides_eqb : (a b : ℕ) {P : Type 0} → (a ≡ b → P) → (P → a ≡ b) → Decides (eqb a b) P
decides_eqb a b to of = record { yes = λ e. to (eqb-true a b e); no = λ e x. eqb-false a b e (of x) }

pub decides_ltb : (a b : ℕ) {P : Type 0} → (a < b → P) → (P → a < b) → Decides (ltb a b) P
decides_ltb a b to of = record { yes = λ e. to (ltb-true a b e); no = λ e x. absurd (let h = ltb-false a b e in let l = of x in omega arith) }

pub decides_iff : {r : Bool} {P Q : Type 0} → Decides r P → (P → Q) → (Q → P) → Decides r Q
decides_iff d to of = record { yes = λ e. to (d.yes e); no = λ e x. d.no e (of x) }

pub decides_not : {r : Bool} {P : Type 0} → Decides r P → Decides (not r) (P → ⊥)
decides_not {r} d = record { yes = λ e. d.no (not-true r e); no = λ e f. f (d.yes (not-false r e)) }

pub decides_settled : {P : Type 0} (r r' : Bool) → Decides r P → Decides r' P → r ≡ r'
decides_settled true true w w' = refl
decides_settled true false w w' = absurd (w'.no refl (w.yes refl))
decides_settled false true w w' = absurd (w.no refl (w'.yes refl))
decides_settled false false w w' = refl
