-- The starred files by their bytes, and what is said of each, as one list. The statement is `All Holds starred`.
-- Reply, Claim: what is said of a file; Holds: what that means by the definitions; bytes_of: the files; starred: the list.
use mathlib.Core.Path.{◌≡◌}
use mathlib.Core.List.{List, [], ◌∷◌, ◌++◌}
use Prim.Native.Nat.{ℕ}
use lib.ListN.{length, get_or}
use Rattle.model.specs.Message.{Message}
use Rattle.model.specs.Case.{File, table_of, run_of, message}
use Rattle.model.specs.Values.{RightValues}
use Rattle.model.specs.Format.{Kind, mark, read_file, Reading, refused, accepted}
use Rattle.model.specs.Replies.{RightListed, NoneRight, EquatedBy, NeverEqual, MarkList, ReducedTo}

-- ---- what is said

-- What is said of a file.
pub data Reply : Type 0 where
  -- it is refused, with this number at this place
  refusal : ℕ → ℕ → Reply
  -- run: yes, and this value list is right
  run_yes : List ℕ → Reply
  -- run: no
  run_no : Reply
  -- under right values the first cell shows what the second shows
  only : ℕ → ℕ → Reply
  -- in each right value list the entry of the cell is this
  entry : ℕ → ℕ → Reply
  -- equating the two cells: this list
  equate_yes : ℕ → ℕ → List ℕ → Reply
  -- equating the two cells: no
  equate_no : ℕ → ℕ → Reply
  -- build marks: these
  marks : List ℕ → Reply
  -- reducing: the file of these bytes
  reduced : List ℕ → Reply

infix 68 ◌gives◌ ◌takes◌
-- A file's bytes, and what is said of it;
pub data Claim : Type 0 where
  ◌gives◌ : List ℕ → Reply → Claim
  -- how many they are
  ◌takes◌ : List ℕ → ℕ → Claim

-- Under right values the cells v and c show one message.
abbrev pub AlwaysSame : File → ℕ → ℕ → Type 0
AlwaysSame f v c = (ρ : ℕ → Message) → RightValues (table_of f.cells) (run_of f.events) ρ → message (table_of f.cells) ρ v ≡ message (table_of f.cells) ρ c

-- In each right value list the entry of v is x.
abbrev pub AlwaysListed : File → ℕ → ℕ → Type 0
AlwaysListed f v x = (list : List ℕ) → RightListed f list → get_or list v 0 ≡ x

-- The file was accepted as one of which P holds.
abbrev pub OfAccepted : Reading → (File → Type 0) → Type 0
OfAccepted r P = (f : File) × (r ≡ accepted f) × P f

-- What a reply says of what a file is read as.
abbrev pub Said : Reading → Reply → Type 0
Said r (refusal n at) = r ≡ refused n at
Said r (run_yes list) = OfAccepted r (λ f. RightListed f list)
Said r run_no = OfAccepted r NoneRight
Said r (only v c) = OfAccepted r (λ f. AlwaysSame f v c)
Said r (entry v x) = OfAccepted r (λ f. AlwaysListed f v x)
Said r (equate_yes a b list) = OfAccepted r (λ f. EquatedBy f a b list)
Said r (equate_no a b) = OfAccepted r (λ f. NeverEqual f a b)
Said r (marks list) = OfAccepted r (λ f. MarkList f list)
Said r (reduced bytes) = OfAccepted r (λ f. ReducedTo f bytes)

-- What a claim says.
abbrev pub Holds : Claim → Type 0
Holds (file gives reply) = Said (read_file file) reply
Holds (file takes n) = length file ≡ n

-- ---- the files

-- The bytes of each kind of record.
abbrev pub at : ℕ → ℕ → List ℕ
at high low = mark Kind.Atom ++ (high ∷ low ∷ [])

abbrev pub va : List ℕ
va = mark Kind.Variable

abbrev pub pr : ℕ → ℕ → List ℕ
pr left right = mark Kind.Pair ++ (left ∷ right ∷ [])

abbrev pub se : ℕ → ℕ → List ℕ
se body under = mark Kind.Seal ++ (body ∷ under ∷ [])

abbrev pub mk : ℕ → List ℕ
mk c = mark Kind.Make ++ (c ∷ [])

abbrev pub ln : ℕ → List ℕ
ln c = mark Kind.Learn ++ (c ∷ [])

abbrev pub en : List ℕ
en = mark Kind.End

-- The files by their letters. K' is the second of the two that reduce to the same file, K''.
pub data Letter : Type 0 where
  A B C D E F G H I J K K' K'' L M R : Letter

-- The cells of E, F and G, and the first ones of H.
abbrev pub cells_e : List ℕ
cells_e = at 0 1 ++ at 0 2 ++ se 1 0 ++ va ++ se 3 0

-- The bytes of each.
abbrev pub bytes_of : Letter → List ℕ
bytes_of A = []
bytes_of B = en
bytes_of C = at 0 0 ++ mk 0 ++ en
bytes_of D = at 0 5 ++ mk 0 ++ en
bytes_of E = cells_e ++ ln 2 ++ mk 4 ++ en
bytes_of F = cells_e ++ ln 2 ++ ln 0 ++ mk 1 ++ en
bytes_of G = cells_e ++ ln 2 ++ mk 1 ++ ln 0 ++ en
bytes_of H = cells_e ++ pr 3 4 ++ ln 2 ++ mk 5 ++ en
bytes_of I = at 0 2 ++ va ++ se 0 1 ++ mk 1 ++ ln 2 ++ mk 0 ++ en
bytes_of J = va ++ ln 0 ++ en
bytes_of K = at 0 7 ++ at 0 3 ++ pr 0 1 ++ ln 2 ++ en
bytes_of K' = at 0 3 ++ at 0 7 ++ se 0 1 ++ ln 1 ++ ln 2 ++ en
bytes_of K'' = at 0 3 ++ at 0 7 ++ ln 0 ++ ln 1 ++ en
bytes_of L = at 0 0 ++ at 0 7 ++ se 0 1 ++ ln 2 ++ en
bytes_of M = at 0 1 ++ at 0 2 ++ se 0 1 ++ se 1 0 ++ ln 2 ++ ln 3 ++ en
bytes_of R = va ++ at 0 1 ++ pr 0 1 ++ en

-- What is said of them.
abbrev pub starred : List Claim
starred =
    bytes_of A gives refusal 1 0
    ∷ bytes_of B gives run_yes []
    ∷ bytes_of B gives reduced (bytes_of B)
    ∷ bytes_of C gives run_yes (0 ∷ [])
    ∷ bytes_of D gives run_no
    ∷ bytes_of E takes 26
    ∷ bytes_of E gives run_yes (0 ∷ 1 ∷ 2 ∷ 1 ∷ 4 ∷ [])
    ∷ bytes_of E gives only 3 1
    ∷ bytes_of E gives entry 3 1
    ∷ bytes_of F gives run_yes (0 ∷ 1 ∷ 2 ∷ 255 ∷ 4 ∷ [])
    ∷ bytes_of G gives run_no
    ∷ bytes_of H gives run_no
    ∷ bytes_of I gives run_yes (0 ∷ 255 ∷ 2 ∷ [])
    ∷ bytes_of I gives entry 1 255
    ∷ bytes_of J gives refusal 6 2
    ∷ bytes_of K gives reduced (bytes_of K'')
    ∷ bytes_of K' gives reduced (bytes_of K'')
    ∷ bytes_of L gives reduced (bytes_of L)
    ∷ bytes_of M gives marks (0 ∷ 0 ∷ 1 ∷ 1 ∷ [])
    ∷ bytes_of R gives equate_no 0 2
    ∷ bytes_of R gives equate_yes 0 1 (1 ∷ 1 ∷ 2 ∷ [])
    ∷ []

-- P holds of each claim of a list.
abbrev pub All : (Claim → Type 0) → List Claim → Type 0
All P [] = Unit
All P (x ∷ xs) = P x × All P xs
