-- Marking what stands in a cell, and variables that are held and not made.
use mathlib.Core.Path.{◌≡◌, refl, sym, ◌∙◌, subst}
use mathlib.Core.Logic.{◌⊎◌, inl, inr}
use mathlib.Core.Bool.{Bool, false}
use mathlib.Core.List.{List}
use Prim.Native.Nat.{ℕ, suc, ◌+◌, ◌≤◌, ◌<◌}
use native.Mathlib.Omega.{arith}
use native.Mathlib.Decide.{ℕ_discrete, dec_lt}
use lib.ListN.{length, set, replicate, length-set}
use Rattle.model.specs.Case as case
use Rattle.model.specs.Case.{Table, AT, VA, ONE, TWO, MK, LN, Part, in_arg, in_left, in_right, Within, here, down, Lower}
use Rattle.model.specs.Stored.{table_in}
use Rattle.model.proofs.Read.{clash}
use Rattle.model.proofs.Rows.{table_past}
use Rattle.theory.specs.Cells.{On}
use Rattle.theory.specs.Decides.{Decides}
use Rattle.theory.proofs.Decides.{decides_no, decides_iff}
use Rattle.theory.proofs.MarkRows.{set_on, set_kept, set_cases, no_mark}
use Rattle.cells.specs.Cells.{parts_of}
use Rattle.cells.specs.declared.Parts.TheVariants as parts
use Rattle.casefile.specs.Events.{PartsMarked, WithinMarked, LooseAt, LooseMarks, Loose, shown}

-- ---- the parts of a cell

part_none : {k : case.Cell} {d : ℕ} → parts_of k ≡ parts.None → Part k d → ⊥
part_none e in_arg = clash (cc)
part_none e in_left = clash (cc)
part_none e in_right = clash (cc)

part_one : {k : case.Cell} {a d : ℕ} → parts_of k ≡ parts.One a → Part k d → d ≡ a
part_one e in_arg = cc
part_one e in_left = clash (cc)
part_one e in_right = clash (cc)

part_two : {k : case.Cell} {a b d : ℕ} → parts_of k ≡ parts.Two a b → Part k d → (d ≡ a) ⊎ (d ≡ b)
part_two e in_arg = clash (cc)
part_two e in_left = inl (cc)
part_two e in_right = inr (cc)

pub one_part : (k : case.Cell) {a : ℕ} → parts_of k ≡ parts.One a → Part k a
one_part (AT n) e = clash (cc)
one_part VA e = clash (cc)
one_part (ONE g x) {a} e = let i : x ≡ a = cc in subst (Part (ONE g x)) i in_arg
one_part (TWO h l r) e = clash (cc)

pub two_parts : (k : case.Cell) {a b : ℕ} → parts_of k ≡ parts.Two a b → Part k a × Part k b
two_parts (AT n) e = clash (cc)
two_parts VA e = clash (cc)
two_parts (ONE g x) e = clash (cc)
two_parts (TWO h l r) {a} {b} e = let i : l ≡ a = cc in let j : r ≡ b = cc in (subst (Part (TWO h l r)) i in_left, subst (Part (TWO h l r)) j in_right)

module _ (k : case.Cell) (marks : List ℕ) (size : length marks ≡ 128) where
  pub mark_none : parts_of k ≡ parts.None → PartsMarked k marks marks
  mark_none e = record { size = size; kept = λ v o. o; parts = λ d q. absurd (part_none e q); only = λ v o. inl o }

  pub mark_one : {a : ℕ} → parts_of k ≡ parts.One a → a < 128 → PartsMarked k marks (set marks a 1)
  mark_one {a} e la = record {
    size = length-set marks a 1 ∙ size;
    kept = λ v o. set_kept marks a (omega arith) v o;
    parts = λ d q. subst (On (set marks a 1)) (sym (part_one e q)) (set_on marks a (omega arith));
    only = λ v o. elim (set_cases marks a v o) [ inr m ↦ inl m | inl i ↦ inr (subst (Part k) (sym i) (one_part k e)) ];
  }

  pub mark_two : {a b : ℕ} → parts_of k ≡ parts.Two a b → a < 128 → b < 128 → PartsMarked k marks (set (set marks a 1) b 1)
  mark_two {a} {b} e la lb = record {
    size = length-set (set marks a 1) b 1 ∙ (length-set marks a 1 ∙ size);
    kept = λ v o. set_kept (set marks a 1) b in_b v (set_kept marks a (omega arith) v o);
    parts = λ d q. elim (part_two e q) [
      | inl i ↦ subst (On (set (set marks a 1) b 1)) (sym i) (set_kept (set marks a 1) b in_b a (set_on marks a (omega arith)))
      | inr i ↦ subst (On (set (set marks a 1) b 1)) (sym i) (set_on (set marks a 1) b in_b)
    ];
    only = λ v o. elim (set_cases (set marks a 1) b v o) [
      | inl i ↦ inr (subst (Part k) (sym i) (two_parts k e).1)
      | inr o' ↦ elim (set_cases marks a v o') [ inr m ↦ inl m | inl i ↦ inr (subst (Part k) (sym i) (two_parts k e).0) ]
    ];
  }
    where
      in_b : b < length (set marks a 1)
      in_b = omega (arith, length-set marks a 1)

-- ---- all that stands in a cell

-- The parts of marked cells are marked, or stand in c.
abbrev pub Closing : Table → ℕ → List ℕ → Type 0
Closing T c m = (x d : ℕ) → On m x → Part (T x) d → On m d ⊎ Within T d c

-- The cells from i up to c are done: their parts are marked if they are.
pub record Descent (T : Table) (c : ℕ) (m₀ : List ℕ) (i : ℕ) (m : List ℕ) : Type 0 where
  pub bound : i ≤ c + 1
  pub size : length m ≡ 128
  pub kept : (v : ℕ) → On m₀ v → On m v
  pub only : Closing T c m₀ → (v : ℕ) → On m v → On m₀ v ⊎ Within T v c
  pub done : (j d : ℕ) → i ≤ j → j ≤ c → On m j → Part (T j) d → On m d

pub descent_start : (T : Table) (c : ℕ) (m₀ : List ℕ) → length m₀ ≡ 128 → Descent T c m₀ (c + 1) m₀
descent_start T c m₀ s = record { bound = omega arith; size = s; kept = λ v o. o; only = λ cl v o. inl o; done = λ j d h l. absurd (omega arith) }

pub within_part : {T : Table} {x y d : ℕ} → Within T x y → Part (T x) d → Within T d y
within_part {T} {d = d} (here e) q = down (subst (λ y. Part (T y) d) e q) (here refl)
within_part (down p w) q = down p (within_part w q)

module _ (T : Table) (low : Lower T) (c : ℕ) (m₀ : List ℕ) (i : ℕ) (m : List ℕ) (s : Descent T c m₀ (suc i) m) where
  -- A marked cell has its parts marked,
  pub descent_marked : (r : List ℕ) → On m i → PartsMarked (T i) m r → Descent T c m₀ i r
  descent_marked r o p = record {
    bound = (let b = s.bound in omega arith);
    size = p.size;
    kept = λ v h. p.kept v (s.kept v h);
    only = λ cl v h. elim (p.only v h) [
      | inl h' ↦ s.only cl v h'
      | inr q ↦ elim (s.only cl i o) [ inl o₀ ↦ cl i v o₀ q | inr w ↦ inr (within_part w q) ]
    ];
    done = λ j d h l oj q. elim (ℕ_discrete j i) [
      | yes e ↦ p.parts d (subst (λ j. Part (T j) d) e q)
      | no ne ↦ elim (p.only j oj) [
        | inl oj' ↦ p.kept d (s.done j d (omega arith) l oj' q)
        | inr qj ↦ (let k = low i j qj in absurd (omega arith))
      ]
    ];
  }

  -- and one that is not marked is passed.
  pub descent_passed : (On m i → ⊥) → Descent T c m₀ i m
  descent_passed n = record {
    bound = (let b = s.bound in omega arith);
    size = s.size;
    kept = s.kept;
    only = s.only;
    done = λ j d h l o q. elim (ℕ_discrete j i) [ yes e ↦ absurd (n (subst (On m) e o)) | no ne ↦ s.done j d (omega arith) l o q ];
  }

-- At the end all that stands in c is marked.
module _ (T : Table) (low : Lower T) (c : ℕ) (marks : List ℕ) (size : length marks ≡ 128) (h : c < 128) (m : List ℕ) (s : Descent T c (set marks c 1) 0 m) where
  descends : {v x : ℕ} → Within T v x → x ≤ c → On m x → On m v
  descends {v} {x} (here e) l o = subst (On m) (sym e) o
  descends {v} {x} (down {d = d} q w) l o = (let k = low x d q in descends w (omega arith) (s.done x d (omega arith) l o q))

  pub within_marked : WithinMarked T marks c m
  within_marked = record {
    size = s.size;
    kept = λ v o. s.kept v (set_kept marks c (omega arith) v o);
    only = λ cl v o. elim (s.only (closing cl) v o) [ inr w ↦ inr w | inl o₀ ↦ elim (set_cases marks c v o₀) [ inr o₁ ↦ inl o₁ | inl e ↦ inr (here e) ] ];
    all = λ v w. descends w (omega arith) (s.kept c (set_on marks c (omega arith)));
  }
    where
      closing : ((x d : ℕ) → On marks x → Part (T x) d → On marks d) → Closing T c (set marks c 1)
      closing cl x d o q = elim (set_cases marks c x o) [
        | inr o₁ ↦ inl (set_kept marks c (omega arith) d (cl x d o₁ q))
        | inl e ↦ inr (down (subst (λ x. Part (T x) d) e q) (here refl))
      ]

-- ---- variables that are held and not made

-- A variable is one of the 128 words.
pub variable_below : (words : List ℕ) (v : ℕ) → table_in words v ≡ VA → v < 128
variable_below words v e = elim (dec_lt v 128) [ yes h ↦ h | no h ↦ clash (cc (table_past words v (omega arith))) ]

module _ {k : case.Cell} {held made : ℕ} where
  pub not_held : (held ≡ 1 → ⊥) → Decides false (LooseAt k held made)
  not_held n = decides_no λ (v, h, m). n h

  pub is_made : made ≡ 1 → Decides false (LooseAt k held made)
  is_made i = decides_no λ (v, h, m). m i

  pub not_made : {r : Bool} → held ≡ 1 → (made ≡ 1 → ⊥) → Decides r (k ≡ VA) → Decides r (LooseAt k held made)
  not_made i n d = decides_iff d (λ v. (v, i, n)) (λ (v, h, m). v)

module _ {T : Table} {made : List ℕ} {c : ℕ} where
  -- An MK shows none, and an LN one of those that its cell holds.
  pub make_loose : Decides false (Loose T made (MK c))
  make_loose = decides_no λ x. elim x [ ]

  pub learn_loose : {held : List ℕ} {r : Bool} → WithinMarked T (replicate 128 0) c held → Decides r (LooseMarks T held made) → Decides r (Loose T made (LN c))
  learn_loose {held} w d = decides_iff d (λ (v, i, o, n). shown i (stands v o) n) back
    where
      stands : (v : ℕ) → On held v → Within T v c
      stands v o = elim (w.only (λ x d o q. absurd (no_mark 128 x o)) v o) [ inl o' ↦ absurd (no_mark 128 v o') | inr i ↦ i ]

      back : Loose T made (LN c) → LooseMarks T held made
      back (shown {v} i j n) = (v, i, w.all v j, n)
