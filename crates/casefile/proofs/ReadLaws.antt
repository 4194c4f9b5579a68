-- One record read by the definition, and the words of a list with one element more.
use mathlib.Core.Path.{◌≡◌, refl, sym, ◌∙◌, ap, ap₂}
use mathlib.Core.List.{List, [], ◌∷◌, ◌++◌, map, append_assoc}
use Prim.Native.Nat.{ℕ, suc, ◌+◌, ◌-◌, ◌<◌}
use native.Mathlib.Omega.{arith}
use lib.ListN.{length, drop, set, replicate, length-map}
use lib.Seq.{set_at, drop-drop}
use Rattle.model.specs.Case.{File, Cell, Event}
use Rattle.model.specs.Stored.{row}
use Rattle.model.proofs.Fuel.{Few, read_step}
use Rattle.model.proofs.Listed.{length_snoc}
use Rattle.model.specs.Format.{Kind, width, record_at, Record, check, Checked, Reading, after, behind, read_from, ended}
use Rattle.casefile.specs.Case.{stored, with_word}

-- Every file read so far that has room goes on in the same way: 257 records are enough from anywhere.
module _ (file : List ℕ) (at : ℕ) (f : File) (few : Few f) where
  abbrev rest : List ℕ
  rest = drop at file

  -- A faulty record decides.
  pub read_fault : (x : ℕ) → check rest f ≡ Checked.fault x → read_from 257 rest at f ≡ Reading.refused x at
  read_fault x e = read_step rest at f few ∙ ap (after (read_from 257) rest at f) e

  -- Behind a sound record the reading goes on.
  module _ (k : Kind) (e : check rest f ≡ Checked.sound k) where
    go_on : (size : ℕ) (r : Record) → 2 + width k ≡ size → record_at rest k ≡ r → read_from 257 rest at f ≡ behind (read_from 257) rest at f size r
    go_on size r s i = read_step rest at f few ∙ (ap (after (read_from 257) rest at f) e ∙ ap₂ (behind (read_from 257) rest at f) s i)

    moved : (size : ℕ) (g : File) → read_from 257 (drop size rest) (at + size) g ≡ read_from 257 (drop (at + size) file) (at + size) g
    moved size g = ap (λ r. read_from 257 r (at + size) g) (drop-drop size at file)

    pub read_cell : (size : ℕ) (d : Cell) → 2 + width k ≡ size → record_at rest k ≡ Record.cell d →
        read_from 257 rest at f ≡ read_from 257 (drop (at + size) file) (at + size) (record { cells = f.cells ++ (d ∷ []); events = f.events })
    read_cell size d s r = go_on size (Record.cell d) s r ∙ moved size (record { cells = f.cells ++ (d ∷ []); events = f.events })

    pub read_event : (size : ℕ) (v : Event) → 2 + width k ≡ size → record_at rest k ≡ Record.event v →
        read_from 257 rest at f ≡ read_from 257 (drop (at + size) file) (at + size) (record { cells = f.cells; events = f.events ++ (v ∷ []) })
    read_event size v s r = go_on size (Record.event v) s r ∙ moved size (record { cells = f.cells; events = f.events ++ (v ∷ []) })

    pub read_end : record_at rest k ≡ Record.end → read_from 257 rest at f ≡ ended rest at f
    read_end r = go_on (2 + width k) Record.end refl r

-- One element more.
map_more : {A : Type 0} (word : A → ℕ) (xs : List A) (x : A) → map word (xs ++ (x ∷ [])) ≡ map word xs ++ (word x ∷ [])
map_more word [] x = refl
map_more word (y ∷ xs) x = ap (◌∷◌ (word y)) (map_more word xs x)

row_more : {A : Type 0} (word : A → ℕ) (xs : List A) (x : A) → length xs < 128 → set (row word xs) (length xs) (word x) ≡ row word (xs ++ (x ∷ []))
row_more word xs x h =
    ap (λ n. set (map word xs ++ replicate n 0) (length xs) (word x)) left
    ∙ (set_at (map word xs) 0 (replicate (128 - (length xs + 1)) 0) (word x) (length xs) (length-map xs word)
    ∙ (sym (append_assoc (map word xs) (word x ∷ []) (replicate (128 - (length xs + 1)) 0))
    ∙ (ap (λ l. l ++ replicate (128 - (length xs + 1)) 0) (sym (map_more word xs x))
    ∙ ap (λ n. map word (xs ++ (x ∷ [])) ++ replicate (128 - n) 0) (sym (length_snoc xs x)))))
  where
    left : 128 - length xs ≡ suc (128 - (length xs + 1))
    left = omega arith

pub word_more : {A : Type 0} (word : A → ℕ) (xs : List A) (x : A) → length xs < 128 → with_word (stored word xs) (word x) ≡ stored word (xs ++ (x ∷ []))
word_more word xs x h = λ i. record { words = row_more word xs x h i; count = sym (length_snoc xs x) i }
