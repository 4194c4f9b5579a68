-- The words of messages: equal words, equal messages; the cells that they show.
use mathlib.Core.Path.{◌≡◌, refl, sym, ◌∙◌, ap}
use mathlib.Core.List.{List}
use Prim.Native.Nat.{ℕ, ◌+◌, ◌*◌, ◌/◌, ◌%◌, ◌≤◌}
use native.Mathlib.Omega.{arith}
use lib.ListN.{length}
use Rattle.model.specs.Message.{App}
use Rattle.model.specs.Case.{VA}
use Rattle.model.specs.Stored.{word_of, cell_in}
use Rattle.model.proofs.Read.{clash}
use Rattle.model.proofs.Rows.{Fits, cell_word, word_cell}
use Rattle.grammar.specs.Typed.{Typed, name, variable, one, two}
use Rattle.grammar.specs.Filed.{cell_of}
use Rattle.grammar.proofs.Trees.{place_in}
use Rattle.grammar.proofs.Entering.{cell_more, cell_one}
use Rattle.typing.specs.Store.{Ready, tag, key_of}
use Rattle.typing.proofs.Trees.{Grows, ready_parts}

-- A word shows the cell.
pub key_cell : (trees : List Typed) → length trees ≤ 128 → (t : Typed) → Ready trees t → cell_in (key_of trees t) ≡ cell_of trees t
key_cell trees few (name n) r = plain (name n) (omega arith) (omega arith, omega arith)
  where
    plain : (t : Typed) → key_of trees t ≡ word_of (cell_of trees t) → Fits (cell_of trees t) → cell_in (key_of trees t) ≡ cell_of trees t
    plain t z f = ap cell_in z ∙ cell_word (cell_of trees t) f
key_cell trees few (variable n) r =
    let z : key_of trees (variable n) ≡ 1 * 65536 + n / 256 * 256 + n % 256 = omega arith in
    ap cell_in z ∙ word_cell 1 (n / 256) (n % 256) (omega arith) (omega arith) (omega arith)
key_cell trees few (one (App f) t) r =
    let z : key_of trees (one (App f) t) ≡ word_of (cell_of trees (one (App f) t)) = omega arith in
    let h = (place_in trees t r.1).0 in
    ap cell_in z ∙ cell_word (cell_of trees (one (App f) t)) (omega (arith, r.0), omega arith)
key_cell trees few (two g t u) r =
    let z : key_of trees (two g t u) ≡ word_of (cell_of trees (two g t u)) = omega arith in
    let h = (place_in trees t r.0).0 in
    let k = (place_in trees u r.1).0 in
    ap cell_in z ∙ cell_word (cell_of trees (two g t u)) (omega arith, omega arith)

pub variable_cell : (trees : List Typed) (t : Typed) → cell_of trees t ≡ VA → (n : ℕ) × (t ≡ variable n)
variable_cell trees (name n) e = clash (cc)
variable_cell trees (variable n) e = (n, refl)
variable_cell trees (one g t) e = clash (cc)
variable_cell trees (two h t u) e = clash (cc)

-- Equal words are those of one message.
pub key_same : (trees : List Typed) → length trees ≤ 128 → (t u : Typed) → Ready trees t → Ready trees u → key_of trees t ≡ key_of trees u → t ≡ u
key_same trees few t u r q e = go u refl
  where
    cells : cell_of trees t ≡ cell_of trees u
    cells = sym (key_cell trees few t r) ∙ (ap cell_in e ∙ key_cell trees few u q)

    solid : (cell_of trees u ≡ VA → ⊥) → t ≡ u
    solid n = cell_one trees t u (ready_parts trees t r) (ready_parts trees u q) n cells

    go : (v : Typed) → u ≡ v → t ≡ u
    go (name m) z = solid (λ x. (let y = ap (cell_of trees) z in clash (cc)))
    go (one g a) z = solid (λ x. (let y = ap (cell_of trees) z in clash (cc)))
    go (two h a b) z = solid (λ x. (let y = ap (cell_of trees) z in clash (cc)))
    go (variable m) z =
        let (n, y) = variable_cell trees t (cells ∙ ap (cell_of trees) z) in
        let w : key_of trees (variable n) ≡ key_of trees (variable m) = ap (key_of trees) (sym y) ∙ (e ∙ ap (key_of trees) z) in
        let x : n ≡ m = omega arith in
        y ∙ (ap variable x ∙ sym z)

-- More messages behind change no word.
pub key_grows : {trees after : List Typed} → Grows trees after → (t : Typed) → Ready trees t → key_of after t ≡ key_of trees t
key_grows {trees} g t r = ap (λ l. key_of l t) g.whole ∙ ap (λ k. word_of k + tag t) (cell_more trees g.more t (ready_parts trees t r))
