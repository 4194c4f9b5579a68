-- The variables that a cell holds, computed and as a relation; when an LN shows a variable that no MK held.
use mathlib.Core.Path.{◌≡◌, refl, sym, ◌∙◌, ap, subst}
use mathlib.Core.Logic.{◌↔◌, inl, inr}
use mathlib.Core.Bool.{true, false, not}
use mathlib.Core.Option.{some}
use mathlib.Core.List.Memᴰ
use mathlib.Core.List.{List, Memᴰ}
use Prim.Native.Nat.{ℕ, zero, suc, ◌<◌}
use native.Mathlib.Omega.{arith}
use lib.ListN.{length}
use lib.Dec.{eqb}
use borrow.Author.Tests.{eqb-true, eq-eqb, not-true, not-false}
use Rattle.model.specs.Case.{Cell, AT, VA, ONE, TWO, Event, MK, LN, Table, run_of, Part, in_arg, in_left, in_right, Within, here, down, Lower}
use Rattle.model.specs.Format.{any_of, in_cell, variables, held, makes, unheld}
use Rattle.model.proofs.Read.{clash}
use Rattle.model.proofs.Listed.{bool?, true_false, member_place, place_member, any_some, some_any, any_none, none_any}

module _ (T : Table) where
  -- What is listed is a variable within the cell.
  in_cell_lem : (c v : ℕ) (vars : ℕ → List ℕ) (k : Cell) → T c ≡ k → ((d : ℕ) → Memᴰ v (vars d) → (T v ≡ VA) × Within T v d) → Memᴰ v (in_cell vars c k) → (T v ≡ VA) × Within T v c
  in_cell_lem c v vars (AT n) e more m = absurd (Memᴰ.not-nil m)
  in_cell_lem c v vars VA e more m = let i : v ≡ c = Memᴰ.eq_of_singleton m in (ap T i ∙ e, here i)
  in_cell_lem c v vars (ONE g a) e more m = let (t, w) = more a m in (t, down (subst (λ k. Part k a) (sym e) in_arg) w)
  in_cell_lem c v vars (TWO h l r) e more m = elim (Memᴰ.append_cases (vars l) m) [
    | inl n ↦ (let (t, w) = more l n in (t, down (subst (λ k. Part k l) (sym e) in_left) w))
    | inr n ↦ (let (t, w) = more r n in (t, down (subst (λ k. Part k r) (sym e) in_right) w))
  ]

  listed_within : (n c v : ℕ) → Memᴰ v (variables T n c) → (T v ≡ VA) × Within T v c
  unfolding variables
  listed_within zero c v m = absurd (Memᴰ.not-nil m)
  listed_within (suc n) c v m = in_cell_lem c v (variables T n) (T c) refl (λ d. listed_within n d v) m

  -- A variable within the cell is listed, if the steps are enough.
  part_listed : (c : ℕ) {v d : ℕ} {k : Cell} (vars : ℕ → List ℕ) → Part k d → Memᴰ v (vars d) → Memᴰ v (in_cell vars c k)
  part_listed c vars in_arg m = m
  part_listed c vars (in_left {l = l} {r = r}) m = Memᴰ.append_left (vars r) m
  part_listed c vars (in_right {l = l}) m = Memᴰ.append_right (vars l) m

  within_listed : Lower T → {v c : ℕ} → T v ≡ VA → Within T v c → (n : ℕ) → c < n → Memᴰ v (variables T n c)
  unfolding variables
  within_listed low t w zero h = absurd (omega arith)
  within_listed low {v} {c} t (here e) (suc n) h = subst (λ k. Memᴰ v (in_cell (variables T n) c k)) (sym t ∙ ap T e) (Memᴰ.head e)
  within_listed low {v} {c} t (down {d = d} p w) (suc n) h = let l = low c d p in part_listed c (variables T n) p (within_listed low t w n (omega arith))

  -- The computed list has exactly the variables within the cell.
  pub held_within : Lower T → (v c : ℕ) → Memᴰ v (held T c) ↔ ((T v ≡ VA) × Within T v c)
  held_within low v c = (listed_within (suc c) c v, λ (t, w). within_listed low t w (suc c) (omega arith))

  -- A variable is held by the message of some MK.
  abbrev pub HeldBy : List Event → ℕ → Type 0
  HeldBy events v = (t : ℕ) × Memᴰ (MK t) events × Within T v t

  module _ (low : Lower T) where
    makes_within : (v t : ℕ) → makes T v (MK t) ≡ true → Within T v t
    makes_within v t e = let (x, m, h) = any_some (eqb v) (held T t) e in subst (λ y. Within T y t) (sym (eqb-true v x h)) ((held_within low x t).0 m).1

    pub makes_held : (events : List Event) (v : ℕ) → any_of (makes T v) events ≡ true → HeldBy events v
    makes_held events v e = go (any_some (makes T v) events e)
      where
        go : (x : Event) × Memᴰ x events × (makes T v x ≡ true) → HeldBy events v
        go (MK t, m, h) = (t, m, makes_within v t h)
        go (LN c, m, h) = clash (cc)

    pub held_makes : (events : List Event) (v : ℕ) → T v ≡ VA → HeldBy events v → any_of (makes T v) events ≡ true
    held_makes events v e (t, m, w) = some_any (makes T v) m (some_any (eqb v) ((held_within low v t).1 (e, w)) (eq-eqb v v refl))

    -- No variable is loose: each one within the cell is held by the message of some MK.
    pub unheld_false : (events : List Event) (c : ℕ) → (unheld T events c ≡ false) ↔ ((v : ℕ) → T v ≡ VA → Within T v c → HeldBy events v)
    unheld_false events c = (
      λ e v t w. makes_held events v (not-false (any_of (makes T v) events) (any_none (λ v. not (any_of (makes T v) events)) (held T c) e v ((held_within low v c).1 (t, w)))),
      λ h. none_any (λ v. not (any_of (makes T v) events)) (held T c) (λ v m. let (t, w) = (held_within low v c).0 m in ap not (held_makes events v t (h v t w))),
    )

    -- Some variable is loose: one within the cell is held by no MK.
    pub unheld_true : (events : List Event) (c : ℕ) → (unheld T events c ≡ true) ↔ ((v : ℕ) × (T v ≡ VA) × Within T v c × (HeldBy events v → ⊥))
    unheld_true events c = (found, λ (v, t, w, n). some_any (λ v. not (any_of (makes T v) events)) ((held_within low v c).1 (t, w)) (ap not (unmade v n)))
      where
        unmade : (v : ℕ) → (HeldBy events v → ⊥) → any_of (makes T v) events ≡ false
        unmade v n = elim (bool? (any_of (makes T v) events)) [ inl e ↦ absurd (n (makes_held events v e)) | inr e ↦ e ]

        found : unheld T events c ≡ true → (v : ℕ) × (T v ≡ VA) × Within T v c × (HeldBy events v → ⊥)
        found e =
            let (v, m, h) = any_some (λ v. not (any_of (makes T v) events)) (held T c) e in
            let (t, w) = (held_within low v c).0 m in
            (v, t, w, λ b. true_false (held_makes events v t b) (not-true (any_of (makes T v) events) h))

  -- The same by positions of the run.
  pub held_by_run : (events : List Event) (v : ℕ) → HeldBy events v ↔ ((q : ℕ) × (t : ℕ) × (q < length events) × (run_of events q ≡ some (MK t)) × Within T v t)
  held_by_run events v = (λ (t, m, w). (let (q, h, e) = member_place m in (q, t, h, e, w)), λ (q, t, h, e, w). (t, place_member events q (MK t) e, w))
