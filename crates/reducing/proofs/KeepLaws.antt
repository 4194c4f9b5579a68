-- The kept cells, found from the last cell down: parts stand lower.
use mathlib.Core.Path.{◌≡◌, refl, sym, ◌∙◌, subst}
use mathlib.Core.Logic.{◌⊎◌, inl, inr}
use mathlib.Core.List.{List}
use Prim.Native.Nat.{ℕ, ◌+◌, ◌≤◌, ◌<◌}
use native.Mathlib.Omega.{arith}
use native.Mathlib.Decide.{ℕ_discrete}
use lib.ListN.{length, set, length-set}
use Rattle.model.specs.Message.{One, Two}
use Rattle.model.specs.Case.{Cell, ONE, TWO, Table, Part, in_arg, in_left, in_right}
use Rattle.model.specs.Stored.{table_in}
use Rattle.theory.specs.Cells.{class_at, On}
use Rattle.theory.proofs.MarkRows.{on?, set_on, set_kept, set_cases}
use Rattle.cells.specs.Cells.{parts_of}
use Rattle.cells.specs.declared.Parts.TheVariants as parts
use Rattle.reducing.specs.Given.{Given}
use Rattle.reducing.specs.Bare.{Adds, Kept, itself, part, Keeps}
use Rattle.reducing.proofs.PartLaws.{parts_one, parts_two}

-- ---- the parts of a cell
part_one : {g : One} {a d : ℕ} → Part (ONE g a) d → d ≡ a
part_one in_arg = refl

part_two : {h : Two} {l r d : ℕ} → Part (TWO h l r) d → (d ≡ l) ⊎ (d ≡ r)
part_two in_left = inl refl
part_two in_right = inr refl

module _ (rep marks : List ℕ) (size : length marks ≡ 129) where
  adds_arg : (g : One) (y b : ℕ) → b ≡ class_at rep y → b ≤ 128 → Adds rep marks (ONE g y) (set marks b 1)
  adds_arg g y b e h =
      let lt : b < length marks = omega arith in
      record {
        size = length-set marks b 1 ∙ size;
        stays = λ c o. set_kept marks b lt c o;
        parts = λ d p. subst (On (set marks b 1)) (e ∙ subst (λ y. class_at rep y ≡ class_at rep d) (part_one p) refl) (set_on marks b lt);
        only = λ c n o. elim (set_cases marks b c o) [ inl i ↦ (y, in_arg, i ∙ e) | inr o' ↦ absurd (n o') ];
      }

  pub adds_one : (k : Cell) {y : ℕ} → parts_of k ≡ parts.One y → class_at rep y ≤ 128 → Adds rep marks k (set marks (class_at rep y) 1)
  adds_one k {y} e l = let (g, z) = parts_one k e in rw z (adds_arg g y (class_at rep y) refl l)

  adds_both : (t : Two) (x y a b : ℕ) → b ≡ class_at rep y → b ≤ 128 → a ≡ class_at rep x → a ≤ 128 → Adds rep marks (TWO t x y) (set (set marks b 1) a 1)
  adds_both t x y a b e l f q =
      let lt : b < length marks = omega arith in
      let one : List ℕ = set marks b 1 in
      let s : length one ≡ 129 = length-set marks b 1 ∙ size in
      let lt' : a < length one = omega arith in
      record {
        size = length-set one a 1 ∙ s;
        stays = λ c o. set_kept one a lt' c (set_kept marks b lt c o);
        parts = λ d p. elim (part_two p) [
          | inl i ↦ subst (λ d. On (set one a 1) (class_at rep d)) (sym i) (subst (On (set one a 1)) f (set_on one a lt'))
          | inr i ↦ subst (λ d. On (set one a 1) (class_at rep d)) (sym i) (subst (On (set one a 1)) e (set_kept one a lt' b (set_on marks b lt)))
        ];
        only = λ c n o. elim (set_cases one a c o) [
          | inl i ↦ (x, in_left, i ∙ f)
          | inr o' ↦ elim (set_cases marks b c o') [ inl i ↦ (y, in_right, i ∙ e) | inr o'' ↦ absurd (n o'') ]
        ];
      }

  pub adds_two : (k : Cell) {x y : ℕ} → parts_of k ≡ parts.Two x y → class_at rep y ≤ 128 → class_at rep x ≤ 128 →
      Adds rep marks k (set (set marks (class_at rep y) 1) (class_at rep x) 1)
  adds_two k {x} {y} e l q = let (t, z) = parts_two k e in rw z (adds_both t x y (class_at rep x) (class_at rep y) refl l refl q)

-- ---- the loop
-- The marks on kept cells, closed under parts from the cell i on.
pub record Keeping (T : Table) (rep bare : List ℕ) (i : ℕ) (marks : List ℕ) : Type 0 where
  pub size : length marks ≡ 129
  pub sound : (c : ℕ) → On marks c → Kept T rep bare c
  pub has : (c : ℕ) → On bare c → On marks c
  pub closed : (c d : ℕ) → i ≤ c → On marks c → Part (T c) d → On marks (class_at rep d)

module _ (n : ℕ) (words rep bare : List ℕ) (g : Given n words rep) (below : (c : ℕ) → On bare c → c < n) where
  abbrev T : Table
  T = table_in words

  pub kept_below : {c : ℕ} → Kept T rep bare c → c < n
  kept_below {c} (itself o) = below c o
  kept_below (part {c = c} {d = d} k p e) =
      let lt = kept_below k in
      let low = g.rows.lower c d p in
      let le = g.lowest d (omega arith) in
      omega arith

  pub keeping_start : length bare ≡ 129 → Keeping T rep bare n bare
  keeping_start s = record { size = s; sound = λ c o. itself o; has = λ c o. o; closed = λ c d h o p. (let lt = below c o in absurd (omega arith)) }

  module _ (i : ℕ) (marks : List ℕ) (k : Keeping T rep bare (i + 1) marks) where
    pub keeping_add : (after : List ℕ) → On marks i → Adds rep marks (T i) after → Keeping T rep bare i after
    keeping_add after o a = record {
      size = a.size;
      sound = λ c q. elim (on? marks c) [
        | inl old ↦ k.sound c old
        | inr new ↦ (let (d, p, e) = a.only c new q in part (k.sound i o) p e)
      ];
      has = λ c q. a.stays c (k.has c q);
      closed = λ c d h q p. elim (on? marks c) [
        | inl old ↦ elim (ℕ_discrete c i) [
          | yes e ↦ a.parts d (subst (λ c. Part (T c) d) e p)
          | no u ↦ a.stays (class_at rep d) (k.closed c d (omega arith) old p)
        ]
        | inr new ↦ (
            let (d', p', e) = a.only c new q in
            let low = g.rows.lower i d' p' in
            let lt = kept_below (k.sound i o) in
            let le = g.lowest d' (omega arith) in
            absurd (omega arith))
      ];
    }

  pub keeping_end : (marks : List ℕ) → Keeping T rep bare 0 marks → Keeps T rep bare n marks
  keeping_end marks k = record { size = k.size; below = λ c o. kept_below (k.sound c o); exact = λ c. (k.sound c, all) }
    where
      all : {c : ℕ} → Kept T rep bare c → On marks c
      all {c} (itself o) = k.has c o
      all (part {c = c} {d = d} h p e) = subst (On marks) (sym e) (k.closed c d (omega arith) (all h) p)
