-- Sets that are closed as loops compute them hold the marks, and are the marks if they hold nothing else.
use mathlib.Core.Path.{◌≡◌, refl, sym, ◌∙◌, ap, subst}
use mathlib.Core.Logic.{◌↔◌}
use Prim.Native.Nat.{ℕ, ◌≤◌}
use native.Mathlib.Omega.{arith}
use Rattle.model.specs.Case.{Table, Run}
use Rattle.theory.specs.Cells.{Makes, Opening}
use Rattle.theory.specs.Level.{Side, seen, built, Mark}
use Rattle.theory.specs.Sweep.{Swept}

abbrev pub On : (ℕ → Type 0) → (ℕ → Type 0) → Side → ℕ → Type 0
On S B seen = S
On S B built = B

-- An opening of a class is one of the cell that stands for it, and the other way round.
module _ (T : Table) (rep : ℕ → ℕ) (idem : (c : ℕ) → rep (rep c) ≡ rep c) where
  pub opening_rep : {c k d : ℕ} → Opening (λ c. T (rep c)) c k d → (k' : ℕ) × Opening T (rep c) k' d × (rep k ≡ rep k')
  opening_rep {c} (Opening.lefts e) = (rep c, Opening.lefts e, sym (idem c))
  opening_rep {c} (Opening.rights e) = (rep c, Opening.rights e, sym (idem c))
  opening_rep {k = k} (Opening.bodies e) = (k, Opening.bodies e, refl)

  pub opening_class : {c k d : ℕ} → rep c ≡ c → Opening T c k d → Opening (λ c. T (rep c)) c k d
  opening_class i (Opening.lefts e) = Opening.lefts (ap T i ∙ e)
  opening_class i (Opening.rights e) = Opening.rights (ap T i ∙ e)
  opening_class i (Opening.bodies e) = Opening.bodies (ap T i ∙ e)

module _ (T : Table) (rep : ℕ → ℕ) (ev : Run) (p : ℕ) (idem : (c : ℕ) → rep (rep c) ≡ rep c) where
  -- Marks are kept by the classes.
  pub mark_same : {s : Side} {c d : ℕ} → rep c ≡ rep d → Mark T rep ev p s c → Mark T rep ev p s d
  mark_same i (Mark.learnt h) = Mark.same i (Mark.learnt h)
  mark_same i (Mark.same e h) = Mark.same (e ∙ i) h
  mark_same i (Mark.opens o h g) = Mark.same i (Mark.opens o h g)
  mark_same i (Mark.parts s q h g g') = Mark.same i (Mark.parts s q h g g')
  mark_same i (Mark.free e) = Mark.free (ap T (sym i) ∙ e)
  mark_same i (Mark.zero e) = Mark.zero (ap T (sym i) ∙ e)
  mark_same i (Mark.had h) = Mark.had (Mark.same i h)
  mark_same i (Mark.makes {a = a} {b = b} s h g) = Mark.makes (subst (λ r. Makes (T r) a b) i s) h g

  -- They stay as the run goes on.
  pub mark_later : {q : ℕ} {s : Side} {c : ℕ} → p ≤ q → Mark T rep ev p s c → Mark T rep ev q s c
  mark_later le (Mark.learnt (l, lt, e)) = Mark.learnt (l, omega arith, e)
  mark_later le (Mark.same e h) = Mark.same e (mark_later le h)
  mark_later le (Mark.opens o h g) = Mark.opens o (mark_later le h) (mark_later le g)
  mark_later le (Mark.parts s q h g g') = Mark.parts s q (mark_later le h) (mark_later le g) (mark_later le g')
  mark_later le (Mark.free e) = Mark.free e
  mark_later le (Mark.zero e) = Mark.zero e
  mark_later le (Mark.had h) = Mark.had (mark_later le h)
  mark_later le (Mark.makes s h g) = Mark.makes s (mark_later le h) (mark_later le g)

  pub mark_rep : {s : Side} {c : ℕ} → Mark T rep ev p s c → Mark T rep ev p s (rep c)
  mark_rep {s} {c} = mark_same (sym (idem c))

  module _ (S B : ℕ → Type 0) (w : Swept T rep ev p S B) where
    -- Closed sets hold all marks,
    pub mark_least : {s : Side} {c : ℕ} → Mark T rep ev p s c → On S B s (rep c)
    mark_least (Mark.learnt {c = c} h) = w.learnt c h
    mark_least (Mark.same e h) = subst S e (mark_least h)
    mark_least (Mark.opens {c = c} {d = d} o h g) =
        let (k, o', e) = opening_rep T rep idem o in
        w.opens (rep c) k d (idem c) o' (mark_least h) (subst B e (mark_least g))
    mark_least (Mark.parts {c = c} s q h g g') = w.parts (rep c) _ _ _ (idem c) s q (mark_least h) (mark_least g) (mark_least g')
    mark_least (Mark.free {c = c} e) = w.free (rep c) (idem c) e
    mark_least (Mark.zero {c = c} e) = w.zero (rep c) (idem c) e
    mark_least (Mark.had {c = c} h) = w.had (rep c) (idem c) (mark_least h)
    mark_least (Mark.makes {c = c} s h g) = w.makes (rep c) _ _ (idem c) s (mark_least h) (mark_least g)

    -- and are the marks if they hold nothing else.
    module _ (sound : (s : Side) (c : ℕ) → On S B s c → Mark T rep ev p s c) where
      pub mark_exact : (s : Side) (c : ℕ) → Mark T rep ev p s c ↔ On S B s (rep c)
      mark_exact s c = (mark_least, λ h. mark_same (idem c) (sound s (rep c) h))
