-- The marks are sound; a free class in a learnt cell stands in an earlier cell to be made.
use mathlib.Core.Path.{◌≡◌, refl, sym, ◌∙◌, ap, subst}
use mathlib.Core.Logic.{◌⊎◌, inl, inr}
use mathlib.Core.Option.{some}
use Prim.Native.Nat.{ℕ, ◌<◌}
use Rattle.theory.proofs.Parts
use Rattle.model.specs.Message.{Two, Pair, Seal, Message, Made, Built}
use Rattle.model.specs.Case.{Cell, VA, TWO, MK, LN, Table, Run, look, Reads, Part, in_arg, in_left, Within, Lower, Known, Makable, WellFormed}
use Rattle.theory.specs.Cells.{Opening, Formed}
use Rattle.theory.specs.Classes.{Closed, Sat}
use Rattle.theory.specs.Level.{Shut, Kin, built, Side, Mark, Occ}
use Rattle.model.proofs.Steps.{Own, own_built}
use Rattle.model.proofs.Read.{strong, var?}
use Rattle.theory.proofs.Parts.{look_made, Keys}
use Rattle.theory.proofs.Classes.{part_solid, alike_solid, part_alike, alike_sym}

-- A cell of two parts is shut, or gives both by itself.
pub shut? : {S : Table} {c l r : ℕ} (h : Two) → S c ≡ TWO h l r → Shut h ⊎ (Opening S c c l × Opening S c c r)
shut? Pair e = inr (Opening.lefts e, Opening.rights e)
shut? Seal e = inl Shut.seals

pub kin_part : {k k' : Cell} → Kin k k' → (x : ℕ) × Part k' x
kin_part Kin.ones = (_, in_arg)
kin_part (Kin.twos s) = (_, in_left)

module _ (T : Table) (rep : ℕ → ℕ) (m : ℕ → Message) (mr : Reads T m m) (ms : Sat rep m) where
  -- A reading that satisfies the classes reads the table of the classes.
  pub class_reads : Reads (λ c. T (rep c)) m m
  class_reads c = ms c ∙ (mr (rep c) ∙ ap (λ v. look v m (T (rep c))) (sym (ms c)))

  pub class_keys : Formed T → Keys (λ c. T (rep c)) m
  class_keys ok = Parts.keys (λ c. T (rep c)) m m class_reads

  pub class_same : {c d : ℕ} → rep c ≡ rep d → m c ≡ m d
  class_same {c} {d} e = ms c ∙ (ap m e ∙ sym (ms d))

-- The marks are sound for values that satisfy the classes, if the free classes are built from nothing.
module _ (T : Table) (rep : ℕ → ℕ) (ev : Run) (ok : Formed T) (τ : ℕ → Message) (τr : Reads T τ τ) (τs : Sat rep τ) (own : (c : ℕ) → T (rep c) ≡ VA → Own (τ c)) where
  at : (c : ℕ) → τ c ≡ look (τ c) τ (T (rep c))
  at = class_reads T rep τ τr τs

  pub mark_sound : {p : ℕ} {s : Side} {c : ℕ} → Mark T rep ev p s c → Built (Known ev τ p) (τ c)
  mark_sound (Mark.learnt {c = c} h) = Built.known (c, h, refl)
  mark_sound {p} (Mark.same e h) = subst (Built (Known ev τ p)) (class_same T rep τ τr τs e) (mark_sound h)
  mark_sound (Mark.opens {c = c} {k = k} {d = d} o h g) = Built.opens ((class_keys T rep τ τr τs ok).sound c k d o) (mark_sound h) (mark_sound g)
  mark_sound {p} (Mark.parts {d = d} s q h g g') = elim (Parts.makes_only s q) [
    | inl e ↦ subst (λ x. Built (Known ev τ p) (τ x)) (sym e) (mark_sound g)
    | inr e ↦ subst (λ x. Built (Known ev τ p) (τ x)) (sym e) (mark_sound g')
  ]
  mark_sound (Mark.free {c = c} e) = own_built (own c e)
  mark_sound {p} (Mark.zero {c = c} e) = subst (Built (Known ev τ p)) (sym (at c ∙ ap (look (τ c) τ) e)) Built.own
  mark_sound (Mark.had h) = mark_sound h
  mark_sound (Mark.makes {c = c} {a = a} {b = b} s h g) = Built.makes (subst (λ x. Made x (τ a) (τ b)) (sym (at c)) (look_made (τ c) τ s)) (mark_sound h) (mark_sound g)

  -- If everything to be made is marked, the values make it.
  pub all_built : ((p t : ℕ) → ev p ≡ some (MK t) → Mark T rep ev p built t) → Makable ev τ
  all_built all p t e = mark_sound (all p t e)

-- Where a free class stands.
module _ (T : Table) (rep : ℕ → ℕ) where
  pub occ_same : {y c d : ℕ} → rep c ≡ rep d → Occ T rep y c → Occ T rep y d
  occ_same e (Occ.here i) = Occ.here (sym e ∙ i)
  occ_same e (Occ.down {d = x} p o) = Occ.down (subst (λ r. Part (T r) x) e p) o

  module _ (closed : Closed T rep) where
    -- A class that stands in a variable of a cell stands in the cell.
    occ_within : {y v c : ℕ} → Within T v c → Occ T rep y v → Occ T rep y c
    occ_within (Within.here e) o = occ_same (ap rep e) o
    occ_within (Within.down {c = c} p w) o =
        let (d', p', e) = part_alike (closed c (part_solid p)) p in
        Occ.down p' (occ_same e (occ_within w o))

    -- A free class that stands in a cell stands in a variable of the cell.
    occ_split : (low : Lower T) (y : ℕ) → T (rep y) ≡ VA → (c : ℕ) → Occ T rep y c → (v : ℕ) × (T v ≡ VA) × Within T v c × Occ T rep y v
    occ_split low y var = strong (λ c. Occ T rep y c → (v : ℕ) × (T v ≡ VA) × Within T v c × Occ T rep y v) step
      where
        go : (c : ℕ) → ((d : ℕ) → d < c → Occ T rep y d → (v : ℕ) × (T v ≡ VA) × Within T v d × Occ T rep y v) → (T c ≡ VA → ⊥) → Occ T rep y c →
            (v : ℕ) × (T v ≡ VA) × Within T v c × Occ T rep y v
        go c ih solid (Occ.here e) = absurd (alike_solid (closed c solid) (cc (ap T e)))
        go c ih solid (Occ.down p o) =
            let (d, q, e) = part_alike (alike_sym (closed c solid)) p in
            let (v, ev, w, o') = ih d (low c d q) (occ_same e o) in
            (v, ev, Within.down q w, o')

        step : (c : ℕ) → ((d : ℕ) → d < c → Occ T rep y d → (v : ℕ) × (T v ≡ VA) × Within T v d × Occ T rep y v) → Occ T rep y c →
            (v : ℕ) × (T v ≡ VA) × Within T v c × Occ T rep y v
        step c ih o = elim (var? (T c)) [ inl e ↦ (c, e, Within.here refl, o) | inr solid ↦ go c ih solid o ]

    -- A free class in a learnt cell stands in an earlier cell to be made.
    pub learnt_made : {ev : Run} → Lower T → WellFormed T ev → (y : ℕ) → T (rep y) ≡ VA → (l c : ℕ) → ev l ≡ some (LN c) → Occ T rep y c →
        (q : ℕ) × (t : ℕ) × (q < l) × (ev q ≡ some (MK t)) × Occ T rep y t
    learnt_made low wf y var l c e o =
        let (v, ve, w, o') = occ_split low y var c o in
        let (q, t, lt, e', w') = wf l c v e ve w in
        (q, t, lt, e', occ_within w' o')
