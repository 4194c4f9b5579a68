-- Marks that are closed, go by the message and hold nothing unbuilt are exactly the cells that can be built.
use mathlib.Core.Path.{◌≡◌, refl, sym, ◌∙◌, ap, subst}
use mathlib.Core.Logic.{◌↔◌, inl, inr}
use Prim.Native.Nat.{ℕ}
use Rattle.model.specs.Message.{Message, atom, Made, Opens, Built}
use Rattle.model.specs.Case.{VA, Table, look, Ground}
use Rattle.theory.specs.Marks.{Marks}
use Rattle.model.proofs.Steps.{Comp, opens_made, opens_atom}
use Rattle.model.proofs.Read.{var?, look_is}
use Rattle.theory.proofs.Parts.{made_look, Keys}

-- The messages of the marked cells.
abbrev pub Shown : (ℕ → Message) → (ℕ → Type 0) → Message → Type 0
Shown m D x = (c : ℕ) × D c × (x ≡ m c)

module _ (sh : Table) (m : ℕ → Message) (reads : Ground sh m) (ks : Keys sh m) (K : Message → Type 0) (D : ℕ → Type 0) (M : Marks sh m K D) where
  or_free : (c : ℕ) → ((sh c ≡ VA → ⊥) → D c) → D c
  or_free c f = elim (var? (sh c)) [ inl v ↦ M.closes.free c v | inr s ↦ f s ]

  -- L1: a cell whose message is composed of marked ones is marked.
  pub comp_marked : {x : Message} → Comp (Shown m D) x → (c : ℕ) → m c ≡ x → D c
  comp_marked Comp.own c e = or_free c (λ s. M.closes.zero c (look_is (atom 0) m (sh c) s (sym (reads c) ∙ e)))
  comp_marked (Comp.base (d, h, i)) c e = M.same d c (cc) h
  comp_marked (Comp.makes {a = a} {b = b} t p q) c e = or_free c (λ s.
      let (i, j, k, ei, ej) = made_look (atom 0) m (sh c) s (subst (λ x. Made x a b) (sym e ∙ reads c) t) in
      M.closes.makes c i j k (comp_marked p i ei) (comp_marked q j ej))

  -- L2: what is composed of marked messages is closed under the steps that decompose.
  comp_opens : {x k y : Message} → Opens x k y → Comp (Shown m D) x → Comp (Shown m D) k → Comp (Shown m D) y
  comp_opens o Comp.own key = absurd (opens_atom o)
  comp_opens {k = k} {y = y} o (Comp.base (c, h, i)) key = elim (var? (sh c)) [
    | inl v ↦ absurd (opens_atom {n = 0} (subst (λ x. Opens x k y) (i ∙ (reads c ∙ ap (look (atom 0) m) v)) o))
    | inr s ↦ (let (j, d, p, ej, ed) = ks.able c s (sym i) o in Comp.base (d, M.closes.opens c j d p h (comp_marked key j ej), sym ed))
  ]
  comp_opens o (Comp.makes t p q) key = elim (opens_made o t) [ inl e ↦ subst (Comp (Shown m D)) (sym e) p | inr e ↦ subst (Comp (Shown m D)) (sym e) q ]

  pub built_comp : {x : Message} → Built K x → Comp (Shown m D) x
  built_comp Built.own = Comp.own
  built_comp (Built.known h) = Comp.base (M.knows _ h)
  built_comp (Built.makes t p q) = Comp.makes t (built_comp p) (built_comp q)
  built_comp (Built.opens o p q) = comp_opens o (built_comp p) (built_comp q)

  -- The marks are exactly the cells that can be built.
  pub marked : (c : ℕ) → Built K (m c) ↔ D c
  marked c = (λ b. comp_marked (built_comp b) c refl, M.sound c)
