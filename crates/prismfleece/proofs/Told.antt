-- What a reply's number is made of, for all five questions and for typed text; and that the number tells it.
use mathlib.Core.Path.{Path, ◌≡◌, refl, sym, ◌∙◌, ap, subst}
use mathlib.Core.List.{List}
use mathlib.Core.Option.{some}
use Prim.Native.Nat.{ℕ, ◌^◌, ◌≤◌, ◌<◌}
use native.Mathlib.Omega.{arith}
use lib.ListN.{length}
use Rattle.std.specs.Prelude.{Bool, true, false, Option, Some, None, Result, Ok, Err}
use Rattle.model.specs.Case.{File}
use Rattle.model.specs.Format.{Reading, read_file, first_variable}
use Rattle.model.proofs.Accepted.{accepted_file}
use Rattle.model.proofs.Places.{refused_place}
use Rattle.model.proofs.Read.{clash}
use Rattle.model.proofs.Variables.{variable_first}
use Rattle.refusals.specs.declared.Refusal.{Refusal}
use Rattle.refusals.specs.Numbers.{number_of, fault_of}
use Rattle.refusals.specs.Refused.{Refused}
use Rattle.refusals.proofs.Numbers.{number_one as fault_one, number_up}
use Rattle.prismfleece.specs.Numbers.{refusal_number, reply_number, Room, bytes_number, list_number, right_number}

-- A refusal with its number and place, or a number of its own.
pub data Told : Type 0 where
  refusal : ℕ → ℕ → Told
  small : ℕ → Told

abbrev pub number : Told → ℕ
number (refusal n p) = refusal_number n p
number (small k) = k

-- It fits: refusals count from 1, no place is 2 ^ 32 or more, and no number of its own is above 899.
abbrev pub Fits : Told → Type 0
Fits (refusal n p) = (1 ≤ n) × (p < 2 ^ 32)
Fits (small k) = k ≤ 899

-- Numbers that fit and are equal are of one reply.
pub number_one : (x y : Told) → Fits x → Fits y → number x ≡ number y → x ≡ y
number_one (refusal n p) (refusal m q) (h, s) (g, t) e = let i : n ≡ m = omega arith in let j : p ≡ q = omega arith in cc
number_one (refusal n p) (small k) (h, s) t e = absurd (omega arith)
number_one (small k) (refusal n p) s (g, t) e = absurd (omega arith)
number_one (small k) (small l) s t e = ap small e

-- Refusals with one fault and one place are one.
pub same_refusal : {A : Type 0} (x y : Refusal) → x.fault ≡ y.fault → x.place ≡ y.place → Path (Result A Refusal) (Err x) (Err y)
same_refusal x y f p = ap (λ a. Err (record { fault = a; place = x.place })) f ∙ ap (λ b. Err (record { fault = y.fault; place = b })) p

-- The cells of an accepted file are few.
pub few : (file : List ℕ) (f : File) → read_file file ≡ Reading.accepted f → length f.cells ≤ 128
few file f e = (accepted_file file f e).few_cells

-- ---- the replies of a question whose answers have numbers

module _ {A : Type 0} (answer : A → ℕ) where
  abbrev pub told : Result A Refusal → Told
  told (Err e) = refusal (number_of e.fault) e.place
  told (Ok a) = small (answer a)

  told_number : (r : Result A Refusal) → reply_number answer r ≡ number (told r)
  told_number (Err e) = refl
  told_number (Ok a) = refl

  -- If the answers have different numbers, a number that fits tells its reply.
  module _ (one : (a b : A) → answer a ≡ answer b → a ≡ b) where
    told_one : (r r' : Result A Refusal) → told r ≡ told r' → r ≡ r'
    told_one (Err x) (Err y) e =
        let i : number_of x.fault ≡ number_of y.fault = cc in
        let j : x.place ≡ y.place = cc in
        same_refusal x y (fault_one x.fault y.fault i) j
    told_one (Err x) (Ok b) e = clash (cc)
    told_one (Ok a) (Err y) e = clash (cc)
    told_one (Ok a) (Ok b) e = let i : answer a ≡ answer b = cc in ap Ok (one a b i)

    pub tells : (r r' : Result A Refusal) → Fits (told r) → Fits (told r') → reply_number answer r ≡ reply_number answer r' → r ≡ r'
    tells r r' h h' e = told_one r r' (number_one (told r) (told r') h h' (sym (told_number r) ∙ (e ∙ told_number r')))

  -- What is told of one reply fits, so it does of the same.
  pub fits : {r r' : Result A Refusal} → r ≡ r' → Fits (told r') → Fits (told r)
  fits e h = subst (λ x. Fits (told x)) (sym e) h

  pub room : (r : Result A Refusal) → Fits (told r) → Room answer r
  room (Err e) h = h.1
  room (Ok a) h = omega arith

  -- ---- the refusals that the questions share

  module _ (file : List ℕ) where
    pub refused_fits : (n p : ℕ) → read_file file ≡ Reading.refused n p → Fits (told (Refused n p))
    refused_fits n p e = let (x, y, z) = refused_place file n p e in (number_up (fault_of n), omega arith)

    module _ (f : File) (e : read_file file ≡ Reading.accepted f) where
      pub cells_fit : (n : ℕ) → Fits (told (Refused n (length f.cells)))
      cells_fit n = let k = few file f e in (number_up (fault_of n), omega arith)

      pub variable_fits : (at : ℕ) → first_variable f.cells ≡ some at → Fits (told (Refused 8 at))
      variable_fits at i = let (c, j, h, g) = variable_first f.cells at i in let k = few file f e in (number_up (fault_of 8), omega arith)

-- ---- the answers have different numbers

pub bytes_one : (n m : ℕ) → bytes_number n ≡ bytes_number m → n ≡ m
bytes_one n m e = omega arith

pub list_one : (a b : Option ℕ) → list_number a ≡ list_number b → a ≡ b
list_one None None e = refl
list_one None (Some m) e = absurd (omega arith)
list_one (Some n) None e = absurd (omega arith)
list_one (Some n) (Some m) e = ap Some (bytes_one n m e)

pub right_one : (a b : Bool) → right_number a ≡ right_number b → a ≡ b
right_one false false e = refl
right_one false true e = absurd (omega arith)
right_one true false e = absurd (omega arith)
right_one true true e = refl
