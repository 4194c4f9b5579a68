-- The main theorems of the list check.
-- check_settled: two replies that keep the promise are equal; check_right, check_followed: what "right" says.
use mathlib.Core.Path.{◌≡◌, refl, sym, ◌∙◌}
use mathlib.Core.List.{List}
use mathlib.Core.Logic.{◌↔◌, inl, inr}
use Prim.Native.Nat.{ℕ}
use Rattle.std.specs.Prelude.{Bool, true, false, Result, Ok, Err}
use Rattle.refusals.specs.declared.Refusal.{Refusal}
use lib.ListN.{length}
use Rattle.model.specs.Case.{File}
use Rattle.model.specs.Format.{Reading, read_file}
use Rattle.model.specs.Replies.{FormOf, RightListed}
use Rattle.model.proofs.Follow.{Followed}
use Rattle.model.proofs.Theorems.{right_list_iff_followed}
use Rattle.model.proofs.Finite.{eq?}
use Rattle.model.proofs.Read.{clash}
use Rattle.checking.specs.Promise.{CheckPromise}
use Rattle.checking.proofs.PromiseLaws.{form?}

-- Of a list in good form, one reply gives the other.
settled_form : (file list : List ℕ) (f : File) (r r' : Result Bool Refusal) → read_file file ≡ Reading.accepted f → FormOf f list → CheckPromise file list r → CheckPromise file list r' → r ≡ r'
settled_form file list f (Ok true) r' e w p p' = sym (p'.right f e (p.right_only f e refl))
settled_form file list f (Ok false) r' e w p p' = let (v, none) = p.wrong_only f e refl in sym (p'.wrong f e v none)
settled_form file list f (Err n) r' e w p p' = let z = p.wrong f e w (λ x. let y = p.right f e (w, x) in clash (cc)) in clash (cc)

-- Two replies that keep the promise are equal.
pub check_settled : (file list : List ℕ) (r r' : Result Bool Refusal) → CheckPromise file list r → CheckPromise file list r' → r ≡ r'
check_settled file list r r' p p' = go (read_file file) refl
  where
    go : (x : Reading) → read_file file ≡ x → r ≡ r'
    go (Reading.refused number place) e = p.refused number place e ∙ sym (p'.refused number place e)
    go (Reading.accepted f) e = elim (eq? (length list) (length f.cells)) [
      | inr ne ↦ p.size f e ne ∙ sym (p'.size f e ne)
      | inl l ↦ elim (form? f list l) [
        | inl (c, h, below, bad) ↦ p.form f e l c h below bad ∙ sym (p'.form f e l c h below bad)
        | inr w ↦ settled_form file list f r r' e w p p'
      ]
    ]

-- The reply is "right" exactly if the file is accepted, the list has the form, following it never comes round and the values are right.
pub check_right : (file list : List ℕ) (r : Result Bool Refusal) → CheckPromise file list r → (r ≡ Ok true) ↔ ((f : File) × (read_file file ≡ Reading.accepted f) × RightListed f list)
check_right file list r p = (λ i. go (read_file file) refl i, λ (f, e, w). p.right f e w)
  where
    go : (x : Reading) → read_file file ≡ x → r ≡ Ok true → (f : File) × (read_file file ≡ Reading.accepted f) × RightListed f list
    go (Reading.refused number place) e i = let z = p.refused number place e in clash (cc)
    go (Reading.accepted f) e i = (f, e, p.right_only f e i)

-- The same with the values spelt out: the list has the form, following it ends from every cell, and the messages that following comes to are right.
pub check_followed : (file list : List ℕ) (r : Result Bool Refusal) → CheckPromise file list r → (r ≡ Ok true) ↔ ((f : File) × (read_file file ≡ Reading.accepted f) × FormOf f list × Followed f list)
check_followed file list r p = (
  λ i. (let (f, e, (form, right)) = (check_right file list r p).0 i in (f, e, form, (right_list_iff_followed file f list e form).0 right)),
  λ (f, e, form, followed). (check_right file list r p).1 (f, e, (form, (right_list_iff_followed file f list e form).1 followed)),
)
