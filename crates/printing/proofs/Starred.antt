-- The lines of the files E, D and J, byte by byte.
use mathlib.Core.Path.{◌≡◌, refl, sym, ◌∙◌, ap, subst}
use mathlib.Core.List.{List, [], ◌∷◌}
use Prim.Native.Nat.{ℕ}
use lib.ListN.{get_or}
use Rattle.model.specs.Case.{File}
use Rattle.model.specs.Format.{read_file, refused, accepted}
use Rattle.model.specs.Replies.{RightListed, NoneRight}
use Rattle.model.proofs.Read.{clash}
use Rattle.model.proofs.Claims.{D, E, J, bytes_of}
use Rattle.model.proofs.Starred.{read_as_lem, its, e_yes, e_entry, d_no}
use Rattle.running.proofs.PromiseLaws.{no_and_yes}
use Rattle.printing.specs.Lines.{Lines, value_lines, yes_lines, no_lines}
use Rattle.grammar.specs.Grammar.{digits}

-- cells 5 events 2, run yes, v3 = 1
abbrev pub lines_of_e : List ℕ
lines_of_e =
    99 ∷ 101 ∷ 108 ∷ 108 ∷ 115 ∷ 32 ∷ 53 ∷ 32 ∷ 101 ∷ 118 ∷ 101 ∷ 110 ∷ 116 ∷ 115 ∷ 32 ∷ 50 ∷ 10 ∷
    114 ∷ 117 ∷ 110 ∷ 32 ∷ 121 ∷ 101 ∷ 115 ∷ 10 ∷ 118 ∷ 51 ∷ 32 ∷ 61 ∷ 32 ∷ 49 ∷ 10 ∷ []

-- cells 1 events 1, run no
abbrev pub lines_of_d : List ℕ
lines_of_d =
    99 ∷ 101 ∷ 108 ∷ 108 ∷ 115 ∷ 32 ∷ 49 ∷ 32 ∷ 101 ∷ 118 ∷ 101 ∷ 110 ∷ 116 ∷ 115 ∷ 32 ∷ 49 ∷ 10 ∷ 114 ∷ 117 ∷ 110 ∷ 32 ∷ 110 ∷ 111 ∷ 10 ∷ []

-- refused 6 at 2
abbrev pub lines_of_j : List ℕ
lines_of_j = 114 ∷ 101 ∷ 102 ∷ 117 ∷ 115 ∷ 101 ∷ 100 ∷ 32 ∷ 54 ∷ 32 ∷ 97 ∷ 116 ∷ 32 ∷ 50 ∷ 10 ∷ []

-- An accepted file is the one that was read.
read_one : (file : List ℕ) {f g : File} → read_file file ≡ accepted f → read_file file ≡ accepted g → f ≡ g
read_one file {f} {g} e i = let z : accepted f ≡ accepted g = sym e ∙ i in cc

-- The lines of E show the entry of its variable alone.
e_text : (list : List ℕ) → get_or list 3 0 ≡ 1 → yes_lines (its E) list ≡ lines_of_e
unfolding digits value_lines
e_text list e = rw e refl

pub lines_of_e_lem : (text : List ℕ) → Lines (bytes_of E) text → text ≡ lines_of_e
lines_of_e_lem text (Lines.refusal n at e) = let z = read_as_lem E in clash (cc)
lines_of_e_lem text (Lines.no f e none) = absurd (no_and_yes (bytes_of E) (its E) (0 ∷ 1 ∷ 2 ∷ 1 ∷ 4 ∷ []) (read_as_lem E) (subst NoneRight (read_one (bytes_of E) e (read_as_lem E)) none) e_yes)
lines_of_e_lem text (Lines.yes f list e right) =
    let i = read_one (bytes_of E) e (read_as_lem E) in
    ap (λ f. yes_lines f list) i ∙ e_text list (e_entry list (subst (λ f. RightListed f list) i right))

pub lines_of_d_lem : (text : List ℕ) → Lines (bytes_of D) text → text ≡ lines_of_d
unfolding digits
lines_of_d_lem text (Lines.refusal n at e) = let z = read_as_lem D in clash (cc)
lines_of_d_lem text (Lines.no f e none) = ap no_lines (read_one (bytes_of D) e (read_as_lem D))
lines_of_d_lem text (Lines.yes f list e right) = absurd (no_and_yes (bytes_of D) (its D) list (read_as_lem D) d_no (subst (λ f. RightListed f list) (read_one (bytes_of D) e (read_as_lem D)) right))

pub lines_of_j_lem : (text : List ℕ) → Lines (bytes_of J) text → text ≡ lines_of_j
unfolding digits
lines_of_j_lem text (Lines.refusal n at e) =
    let z : refused n at ≡ refused 6 2 = sym e ∙ read_as_lem J in
    let i : n ≡ 6 = cc in
    let j : at ≡ 2 = cc in
    rw (i, j) refl
lines_of_j_lem text (Lines.no f e none) = let z = read_as_lem J in clash (cc)
lines_of_j_lem text (Lines.yes f list e right) = let z = read_as_lem J in clash (cc)
