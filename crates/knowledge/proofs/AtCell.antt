-- What is found at one cell.
use mathlib.Core.Path.{◌≡◌, sym, ◌∙◌, ap, subst}
use mathlib.Core.Bool.{Bool}
use mathlib.Core.List.{List}
use Prim.Native.Nat.{ℕ, ◌≤◌, ◌<◌}
use native.Mathlib.Omega.{arith}
use Rattle.model.specs.Case.{Cell, Table, Part}
use Rattle.model.specs.Stored.{table_in}
use Rattle.theory.specs.Cells.{TableWords, class_at, On}
use Rattle.theory.specs.Decides.{Decides}
use Rattle.theory.proofs.Decides.{decides_iff}
use Rattle.knowledge.specs.Sweeps.{left_part, right_part, left_class, right_class, Given, MadeBy, Gives, Adds, Newly, Shows}
use Rattle.knowledge.proofs.ByKind.{left_low, right_low}

-- The parts of a cell are cells.
module _ {n : ℕ} {words : List ℕ} (w : TableWords n words) (c : ℕ) (h : c < n) where
  pub left_cell : left_part (table_in words c) c ≤ 128
  left_cell = omega (arith, left_low (table_in words c) c (w.lower c), w.few)

  pub right_cell : right_part (table_in words c) c ≤ 128
  right_cell = omega (arith, right_low (table_in words c) c (w.lower c), w.few)

  pub part_cell : {k : Cell} → k ≡ table_in words c → (d : ℕ) → Part k d → d ≤ 128
  part_cell e d p = omega (arith, w.lower c d (subst (λ j. Part j d) e p), w.few)

-- Is c to be marked as built? It stands for its class and is not marked, and its cell k decides.
module _ (T : Table) (rep seens builts : List ℕ) (c : ℕ) {k : Cell} (e : k ≡ T c) (s : class_at rep c ≡ c) (n : On builts c → ⊥) where
  pub newly_made : {r : Bool} → (On seens c → ⊥) → (Given k → ⊥) → Decides r (MadeBy k rep builts) → Decides r (Newly T rep seens builts c)
  newly_made u v d = decides_iff d (λ m. record { stands = s; new = n; adds = Adds.made (subst (λ j. MadeBy j rep builts) e m) }) (λ w. only w.adds)
    where
      only : Adds T rep seens builts c → MadeBy k rep builts
      only (Adds.had o) = absurd (u o)
      only (Adds.given g) = absurd (v (subst Given (sym e) g))
      only (Adds.made m) = subst (λ j. MadeBy j rep builts) (sym e) m

-- The classes of the parts of c, where they are newly seen: its cell k decides.
module _ (T : Table) (rep seens builts : List ℕ) (c : ℕ) {k : Cell} (e : k ≡ T c) where
  pub shows_mute : (Gives k rep builts → ⊥) → Shows T rep seens builts c → ⊥
  shows_mute n w = n (subst (λ j. Gives j rep builts) (sym e) w.gives)

  module _ {a b : ℕ} (l : a ≡ class_at rep (left_part k c)) (r : b ≡ class_at rep (right_part k c)) where
    left_class_lem : a ≡ left_class T rep c
    left_class_lem = l ∙ ap (λ j. class_at rep (left_part j c)) e

    right_class_lem : b ≡ right_class T rep c
    right_class_lem = r ∙ ap (λ j. class_at rep (right_part j c)) e

    pub shows_old : On seens a → On seens b → Shows T rep seens builts c → ⊥
    shows_old x y w = w.new (subst (On seens) left_class_lem x) (subst (On seens) right_class_lem y)

    pub shows_new : class_at rep c ≡ c → On seens c → Gives k rep builts → (On seens a → On seens b → ⊥) →
        (a ≡ left_class T rep c) × (b ≡ right_class T rep c) × Shows T rep seens builts c
    shows_new s h g n = (
      left_class_lem,
      right_class_lem,
      record {
        stands = s;
        whole = h;
        gives = subst (λ j. Gives j rep builts) e g;
        new = λ x y. n (subst (On seens) (sym left_class_lem) x) (subst (On seens) (sym right_class_lem) y);
      },
    )
