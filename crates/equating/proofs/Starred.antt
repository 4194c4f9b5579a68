-- File R, VA AT 0001 PR 00 01 EN: each reply that meets the promise is "no" for the cells 0 and 2, and for the cells 0 and 1 the list 1, 1, 2, the only one that equates them.
-- So a version that refuses everything, never changes its reply or writes nothing does not meet the promise.
use mathlib.Core.Path.{◌≡◌, refl, sym, ◌∙◌, ap, subst}
use mathlib.Core.List.{List, [], ◌∷◌}
use mathlib.Core.Logic.{inl, inr}
use Prim.Native.Nat.{ℕ, zero, suc, ◌≤◌}
use native.Mathlib.Omega.{arith}
use lib.ListN.{length, get_or, drop}
use Rattle.model.specs.Message.{Message, atom}
use Rattle.model.specs.Case.{VA, AT, PR, File, table_of, shown, message, Lower}
use Rattle.model.specs.Format.{read_file, accepted}
use Rattle.model.specs.Replies.{EquatedBy, NeverEqual, laid}
use Rattle.model.proofs.Read.{clash, message_self}
use Rattle.model.proofs.Accepted.{accepted_file}
use Rattle.model.proofs.Claims.{R, bytes_of}
use Rattle.model.proofs.Starred.{read_as_lem, starred_hold}
use Rattle.std.specs.Prelude.{Option, Some, None, Result, Ok}
use Rattle.refusals.specs.declared.Refusal.{Refusal}
use Rattle.equating.specs.Promise.{Answered, EquatePromise}
use Rattle.equating.proofs.PromiseLaws.{no_of_never, never_equated}

-- What R is read as.
abbrev file_r : File
file_r = record { cells = VA ∷ AT 1 ∷ PR 0 1 ∷ []; events = [] }

-- What is said of R in the list of starred files, of R as it is read.
of_r : (P : File → Type 0) → (f : File) × (read_file (bytes_of R) ≡ accepted f) × P f → P file_r
of_r P (f, e, w) = let z : accepted f ≡ accepted file_r = sym e ∙ read_as_lem R in let y : f ≡ file_r = cc in subst P y w

r_never : NeverEqual file_r 0 2
r_never = of_r (λ f. NeverEqual f 0 2) starred_hold.1.1.1.1.1.1.1.1.1.1.1.1.1.1.1.1.1.1.1.0

r_equated : EquatedBy file_r 0 1 (1 ∷ 1 ∷ 2 ∷ [])
r_equated = of_r (λ f. EquatedBy f 0 1 (1 ∷ 1 ∷ 2 ∷ [])) starred_hold.1.1.1.1.1.1.1.1.1.1.1.1.1.1.1.1.1.1.1.1.0

-- The entry of the variable is 1: under name 1 both cells are equal, and under name 0 they are not.
module _ (x : ℕ) (w : EquatedBy file_r 0 1 (x ∷ 1 ∷ 2 ∷ [])) where
  low : Lower (table_of file_r.cells)
  low = (accepted_file (bytes_of R) file_r (read_as_lem R)).lower

  holds : (ρ : ℕ → Message) → ρ 0 ≡ atom 1 → ρ 0 ≡ message (table_of file_r.cells) ρ x
  unfolding shown
  holds ρ e = (w.equates.exact (message (table_of file_r.cells) ρ) (message_self (table_of file_r.cells) ρ low)).0 e 0 refl

  not_free : x ≡ 0 → ⊥
  unfolding shown
  not_free z =
      let ρ : ℕ → Message = λ v. atom 0 in
      let e = (w.equates.exact (message (table_of file_r.cells) ρ) (message_self (table_of file_r.cells) ρ low)).1 free in
      clash (cc)
    where
      free : (v : ℕ) → table_of file_r.cells v ≡ VA → message (table_of file_r.cells) (λ v. atom 0) v ≡ message (table_of file_r.cells) (λ v. atom 0) (get_or (x ∷ 1 ∷ 2 ∷ []) v v)
      free zero e = ap (message (table_of file_r.cells) (λ v. atom 0)) (sym z)
      free (suc zero) e = clash (cc)
      free (suc (suc zero)) e = clash (cc)
      free (suc (suc (suc v))) e = clash (cc)

  entry_one : (y : ℕ) → x ≡ y → x ≡ 1
  unfolding shown
  entry_one zero z = absurd (not_free z)
  entry_one (suc zero) z = z
  entry_one (suc (suc zero)) z = let e = subst (λ y. atom 1 ≡ message (table_of file_r.cells) (λ v. atom 1) y) z (holds (λ v. atom 1) refl) in clash (cc)
  entry_one (suc (suc (suc y))) z = let e = subst (λ y. atom 1 ≡ message (table_of file_r.cells) (λ v. atom 1) y) z (holds (λ v. atom 1) refl) in clash (cc)

r_only : (list : List ℕ) → EquatedBy file_r 0 1 list → list ≡ 1 ∷ 1 ∷ 2 ∷ []
r_only [] w = absurd (let e = w.size in omega arith)
r_only (x ∷ []) w = absurd (let e = w.size in omega arith)
r_only (x ∷ y ∷ []) w = absurd (let e = w.size in omega arith)
r_only (x ∷ y ∷ z ∷ u ∷ l) w = absurd (let e = w.size in omega arith)
r_only (x ∷ y ∷ z ∷ []) w =
    let second : y ≡ 1 = w.own 1 (λ e. clash (cc)) in
    let third : z ≡ 2 = w.own 2 (λ e. clash (cc)) in
    let w' : EquatedBy file_r 0 1 (x ∷ 1 ∷ 2 ∷ []) = subst (λ y. EquatedBy file_r 0 1 (x ∷ y ∷ 2 ∷ [])) second (subst (λ z. EquatedBy file_r 0 1 (x ∷ y ∷ z ∷ [])) third w) in
    let first : x ≡ 1 = entry_one x w' x refl in
    cc

module _ (before after : List ℕ) (reply : Result (Option ℕ) Refusal) (room : 3 ≤ length before) where
  answered : (b : ℕ) → b ≤ 2 → Answered (bytes_of R) 0 b before file_r
  answered b h = record { asked = record { read = read_as_lem R; first = omega arith; second = omega arith }; room = room }

  -- Cells 0 and 2: "no", and nothing is written.
  pub r_replies_no : EquatePromise (bytes_of R) 0 2 before reply after → (reply ≡ Ok None) × (after ≡ before)
  r_replies_no p =
      let q = answered 2 (omega arith) in
      let e = no_of_never (bytes_of R) 0 2 before reply after p file_r q r_never in
      (e, (p.no file_r q e).1)

  -- Cells 0 and 1: the list 1, 1, 2.
  pub r_replies_list : EquatePromise (bytes_of R) 0 1 before reply after → (reply ≡ Ok (Some 3)) × (after ≡ 1 ∷ 1 ∷ 2 ∷ drop 3 before)
  r_replies_list p = elim (p.replied file_r q) [
    | inl e ↦ absurd (never_equated (bytes_of R) file_r 0 1 (1 ∷ 1 ∷ 2 ∷ []) (read_as_lem R) (p.no file_r q e).0 r_equated)
    | inr e ↦ (let (list, w, k) = p.listed file_r q e in (e, k ∙ ap (λ l. laid l before) (r_only list w)))
  ]
    where
      q : Answered (bytes_of R) 0 1 before file_r
      q = answered 1 (omega arith)
