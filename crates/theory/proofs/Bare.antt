-- From the bare messages but his own name he builds exactly what he builds from all; they are a function of what is built.
use mathlib.Core.Path.{◌≡◌, refl, sym, ◌∙◌, ap, subst}
use mathlib.Core.Logic.{◌↔◌, ◌⊎◌, inl, inr}
use Prim.Native.Nat.{ℕ, zero, suc, ◌<◌}
use native.Mathlib.Omega.{arith}
use Rattle.model.specs.Message.{Message, atom, one, two, Made, Built}
use Rattle.model.specs.Case.{Table, look, Ground}
use Rattle.theory.specs.Marks.{Marks}
use Rattle.model.specs.Reduce.{Uncomposed, Rest}
use Rattle.model.proofs.Steps.{Comp, built_built, comp_built, made?, made_one, made_held, made_atom, size, held_size}
use Rattle.model.proofs.Read.{clash, var?}
use Rattle.theory.proofs.Parts.{made_look, Keys}
use Rattle.theory.proofs.Local.{Shown, built_comp, marked}

-- Whether a message is the intruder's own name.
pub own? : (x : Message) → (x ≡ atom 0) ⊎ (x ≡ atom 0 → ⊥)
own? (atom zero) = inl refl
own? (atom (suc n)) = inr (λ e. clash (cc))
own? (one g a) = inr (λ e. clash (cc))
own? (two h a b) = inr (λ e. clash (cc))

-- Of messages for which it is decided whether they are built, P, closed under parts.
module _ (K P : Message → Type 0) (dec : (x : Message) → P x → Built K x ⊎ (Built K x → ⊥)) (knows : (x : Message) → K x → P x)
    (parts : (x a b : Message) → Made x a b → P x → P a × P b) where
  -- By the size of the message, below n.
  rest_comp : (n : ℕ) (x : Message) → size x < n → P x → Built K x → Comp (Rest K) x
  rest_comp zero x lt h b = absurd (omega arith)
  rest_comp (suc n) x lt h b = elim (own? x) [
    | inl e ↦ subst (Comp (Rest K)) (sym e) Comp.own
    | inr ne ↦ elim (made? x) [
      | inr bare ↦ Comp.base (b, λ a c t _ _. bare a c t, ne)
      | inl (a, c, t) ↦ (
          let (ha, hc) = parts x a c t h in
          let (sa, sc) = made_held t in
          let la = held_size sa in
          let lc = held_size sc in
          elim (dec a ha) [
            | inr na ↦ Comp.base (b, λ a' c' t' ba bc. na (subst (Built K) (made_one t' t).0 ba), ne)
            | inl ba ↦ elim (dec c hc) [
              | inr nc ↦ Comp.base (b, λ a' c' t' ba bc. nc (subst (Built K) (made_one t' t).1 bc), ne)
              | inl bc ↦ Comp.makes t (rest_comp n a (omega arith) ha ba) (rest_comp n c (omega arith) hc bc)
            ]
          ])
    ]
  ]

  -- From the bare messages except the own name he builds exactly what he builds from K.
  pub rest_built : (x : Message) → Built (Rest K) x ↔ Built K x
  rest_built x = (built_built (λ y h. h.0), built_built (λ y h. comp_built (rest_comp (suc (size y)) y (omega arith) (knows y h) (Built.known h))))

-- The messages of a table whose cells are marked are such.
module _ (sh : Table) (m : ℕ → Message) (reads : Ground sh m) (ks : Keys sh m) (K : Message → Type 0) (D : ℕ → Type 0) (M : Marks sh m K D) (dec : (c : ℕ) → D c ⊎ (D c → ⊥)) where
  pub reduced_built : (x : Message) → Built (Rest K) x ↔ Built K x
  reduced_built = rest_built K (λ x. (c : ℕ) × (m c ≡ x))
      (λ x (c, e). elim (dec c) [
        | inl h ↦ inl (subst (Built K) e (M.sound c h))
        | inr n ↦ inr (λ b. n ((marked sh m reads ks K D M c).0 (subst (Built K) (sym e) b)))
      ])
      (λ x h. let (c, d, e) = M.knows x h in (c, sym e))
      (λ x a b t (c, e). elim (var? (sh c)) [
        | inl v ↦ absurd (made_atom {n = 0} (subst (λ x. Made x a b) (sym e ∙ (reads c ∙ ap (look (atom 0) m) v)) t))
        | inr s ↦ (let (i, j, k, ei, ej) = made_look (atom 0) m (sh c) s (subst (λ x. Made x a b) (sym e ∙ reads c) t) in ((i, ei), (j, ej)))
      ])

-- The reduced file's messages are a function of what is built.
pub rest_same : {K L : Message → Type 0} → ((x : Message) → Built K x ↔ Built L x) → (x : Message) → Rest K x → Rest L x
rest_same e x (h, u, z) = ((e _).0 h, λ a b t p q. u a b t ((e a).1 p) ((e b).1 q), z)

-- Each message of the reduced file's list is shown by a marked cell.
pub rest_shown : (sh : Table) (m : ℕ → Message) (reads : Ground sh m) (ks : Keys sh m) (K : Message → Type 0) (D : ℕ → Type 0) → Marks sh m K D → (x : Message) → Rest K x → (c : ℕ) × D c × (x ≡ m c)
rest_shown sh m reads ks K D M x (b, u, z) = go x u z (built_comp sh m reads ks K D M b)
  where
    go : (x : Message) → Uncomposed K x → (x ≡ atom 0 → ⊥) → Comp (Shown m D) x → (c : ℕ) × D c × (x ≡ m c)
    go x u z Comp.own = absurd (z refl)
    go x u z (Comp.base h) = h
    go x u z (Comp.makes t p q) = absurd (u _ _ t (built p) (built q))
      where
        built : {y : Message} → Comp (Shown m D) y → Built K y
        built h = built_built (λ y (c, d, e). subst (Built K) (sym e) (M.sound c d)) (comp_built h)
