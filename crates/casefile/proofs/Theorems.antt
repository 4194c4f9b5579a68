-- The main theorems of the reader.
use mathlib.Core.Path.{◌≡◌, sym, ◌∙◌, ap, ap₂, subst}
use mathlib.Core.Logic.{◌↔◌}
use mathlib.Core.List.{List}
use lib.ListN.{take}
use Rattle.std.specs.Prelude.{ℕ, Result, Ok, Err}
use Rattle.model.specs.Format.{Reading, read_file}
use Rattle.model.proofs.Prefix.{read_file_prefix}
use Rattle.refusals.specs.declared.Refusal.{Refusal}
use Rattle.refusals.specs.Numbers.{number_of}
use Rattle.refusals.proofs.Numbers.{number_one}
use Rattle.casefile.specs.declared.case.Case.{Case}
use Rattle.casefile.specs.Case.{Reads}
use Rattle.casefile.proofs.Same.{same_table, same_case}

-- Two replies to a reading are equal.
reads_settled : (x : Reading) (r r' : Result Case Refusal) → Reads x r → Reads x r' → r ≡ r'
reads_settled (Reading.refused n p) (Err e) (Err e') (number, place) (number', place') =
    ap₂ (λ fault place. Err (record { fault = fault; place = place })) (number_one e.fault e'.fault (number ∙ sym number')) (place ∙ sym place')
reads_settled (Reading.refused n p) (Err e) (Ok d) h h' = absurd h'
reads_settled (Reading.refused n p) (Ok c) r' h h' = absurd h
reads_settled (Reading.accepted f) (Ok c) (Ok d) h h' = ap Ok
    (same_case c d (same_table c.table d.table (h.words ∙ sym h'.words) (h.count ∙ sym h'.count)) (h.run ∙ sym h'.run) (h.variable ∙ sym h'.variable))
reads_settled (Reading.accepted f) (Ok c) (Err e) h h' = absurd h'
reads_settled (Reading.accepted f) (Err e) r' h h' = absurd h

-- Two replies to a file that meet the contract of `read_case` are equal.
pub read_case_settled : (file : List ℕ) (r r' : Result Case Refusal) → Reads (read_file file) r → Reads (read_file file) r' → r ≡ r'
read_case_settled file = reads_settled (read_file file)

-- The reply depends on the first 899 bytes only.
pub read_case_prefix : (file : List ℕ) (r : Result Case Refusal) → Reads (read_file file) r ↔ Reads (read_file (take 899 file)) r
read_case_prefix file r = (subst (λ x. Reads x r) (read_file_prefix file), subst (λ x. Reads x r) (sym (read_file_prefix file)))

-- Whatever refusal the reply to a reading is, it is that of the reading, by its number and its place.
pub refusal_told : (r : Reading) (e : Refusal) → Reads r (Err e) → r ≡ Reading.refused (number_of e.fault) e.place
refusal_told (Reading.refused n p) e (number, place) = ap₂ Reading.refused (sym number) (sym place)
refusal_told (Reading.accepted f) e h = absurd h
