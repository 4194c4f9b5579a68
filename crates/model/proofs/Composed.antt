-- What is built, where taking apart the known messages gives nothing that is not composed of them: it is composed of them.
-- What a composed message says by its kind; the messages learnt in a list of events; the reduced file's messages from such known ones.
use mathlib.Core.Path.{◌≡◌, refl, sym, subst}
use mathlib.Core.Logic.{◌⊎◌, inl, inr}
use mathlib.Core.List.Memᴰ
use mathlib.Core.List.{List, [], ◌∷◌, Memᴰ}
use mathlib.Core.Option.{some}
use Prim.Native.Nat.{ℕ, zero, suc, ◌<◌}
use lib.ListN.{get_elem?, take}
use native.Mathlib.Omega.{arith}
use Rattle.model.specs.Message.{Message, atom, pair, seal, app, Made, Opens, Built}
use Rattle.model.specs.Case.{Event, MK, LN, run_of, Known, Heard}
use Rattle.model.specs.Reduce.{Uncomposed, Rest}
use Rattle.model.proofs.Steps.{Comp, comp_built, built_built, opens_made, opens_atom}
use Rattle.model.proofs.Read.{clash}

-- If what is composed of K is closed under taking apart the messages of K, then it is all that is built.
pub built_closed : {K : Message → Type 0} → ((x k y : Message) → Opens x k y → K x → Comp K k → Comp K y) → {x : Message} → Built K x → Comp K x
built_closed {K} g = all
  where
    opens : {x k y : Message} → Opens x k y → Comp K x → Comp K k → Comp K y
    opens o Comp.own q = absurd (opens_atom o)
    opens o (Comp.base h) q = g _ _ _ o h q
    opens o (Comp.makes t p p') q = elim (opens_made o t) [ inl e ↦ subst (Comp K) (sym e) p | inr e ↦ subst (Comp K) (sym e) p' ]

    all : {x : Message} → Built K x → Comp K x
    all Built.own = Comp.own
    all (Built.known h) = Comp.base h
    all (Built.makes t p q) = Comp.makes t (all p) (all q)
    all (Built.opens o p q) = opens o (all p) (all q)

-- A composed atom is his own name or known; any other composed message is known, or its parts are composed.
pub comp_atom : {K : Message → Type 0} {n : ℕ} → Comp K (atom n) → (n ≡ 0) ⊎ K (atom n)
comp_atom Comp.own = inl refl
comp_atom (Comp.base h) = inr h
comp_atom {K = K} {n = n} (Comp.makes {a = a} {b = b} x _ _) = elim x [ ]

pub comp_pair : {K : Message → Type 0} {a b : Message} → Comp K (pair a b) → K (pair a b) ⊎ (Comp K a × Comp K b)
comp_pair (Comp.base h) = inl h
comp_pair (Comp.makes Made.pairs p q) = inr (p, q)

pub comp_seal : {K : Message → Type 0} {b k : Message} → Comp K (seal b k) → K (seal b k) ⊎ (Comp K b × Comp K k)
comp_seal (Comp.base h) = inl h
comp_seal (Comp.makes Made.seals p q) = inr (p, q)

-- `Shut K x`: nothing is taken from x: it is an atom, an application, or a seal under a name that is neither his own nor known.
pub data Shut (K : Message → Type 0) : Message → Type 0 where
  name : {n : ℕ} → Shut K (atom n)
  applied : {f : ℕ} {a : Message} → Shut K (app f a)
  sealed : {b : Message} {n : ℕ} → (n ≡ 0 → ⊥) → (K (atom n) → ⊥) → Shut K (seal b (atom n))

shut_opens : {K : Message → Type 0} {x k y : Message} → Shut K x → Opens x k y → Comp K k → ⊥
shut_opens name o p = opens_atom o
shut_opens applied o p = elim o [ ]
shut_opens (sealed ne no_key) Opens.bodies p = elim (comp_atom p) [ inl e ↦ ne e | inr h ↦ no_key h ]

-- From shut messages he only composes.
pub shut_built : {K : Message → Type 0} → ((x : Message) → K x → Shut K x) → {x : Message} → Built K x → Comp K x
shut_built shut = built_closed (λ x k y o h p. absurd (shut_opens (shut x h) o p))

-- The message is one of a list.
abbrev pub Among : List Message → Message → Type 0
Among l x = Memᴰ x l

-- The messages learnt in a list of events.
abbrev pub learnt_of : (ℕ → Message) → List Event → List Message
learnt_of m [] = []
learnt_of m (MK c ∷ events) = learnt_of m events
learnt_of m (LN c ∷ events) = m c ∷ learnt_of m events

learnt_among : (m : ℕ → Message) (events : List Event) (p q c : ℕ) → q < p → get_elem? events q ≡ some (LN c) → Among (learnt_of m (take p events)) (m c)
learnt_among m [] p q c lt e = clash (cc)
learnt_among m (x ∷ events) zero q c lt e = absurd (omega arith)
learnt_among m (MK d ∷ events) (suc p) zero c lt e = clash (cc)
learnt_among m (LN d ∷ events) (suc p) zero c lt e = Memᴰ.head {x = m d} (cc)
learnt_among m (MK d ∷ events) (suc p) (suc q) c lt e = learnt_among m events p q c (omega arith) e
learnt_among m (LN d ∷ events) (suc p) (suc q) c lt e = Memᴰ.tail (learnt_among m events p q c (omega arith) e)

-- What is known before position p is among the messages learnt in the first p events; what is heard, in all of them.
pub known_among : (m : ℕ → Message) (events : List Event) (p : ℕ) (x : Message) → Known (run_of events) m p x → Among (learnt_of m (take p events)) x
known_among m events p x (c, (q, lt, e), i) = Memᴰ.cast i (learnt_among m events p q c lt e)

heard_at : (m : ℕ → Message) (events : List Event) (q c : ℕ) → get_elem? events q ≡ some (LN c) → Among (learnt_of m events) (m c)
heard_at m [] q c e = clash (cc)
heard_at m (MK d ∷ events) zero c e = clash (cc)
heard_at m (LN d ∷ events) zero c e = Memᴰ.head {x = m d} (cc)
heard_at m (MK d ∷ events) (suc q) c e = heard_at m events q c e
heard_at m (LN d ∷ events) (suc q) c e = Memᴰ.tail (heard_at m events q c e)

pub heard_among : (m : ℕ → Message) (events : List Event) (x : Message) → Heard (run_of events) m x → Among (learnt_of m events) x
heard_among m events x (c, q, e, i) = Memᴰ.cast i (heard_at m events q c e)

-- Where shut messages L give the same as K, the reduced file of K lists messages of L alone: those that are not composed of others, except his own name.
module _ (K L : Message → Type 0) (there : (x : Message) → K x → Built L x) (back : (x : Message) → L x → Built K x) (shut : (x : Message) → L x → Shut L x) where
  composed : {x : Message} → Built K x → Comp L x
  composed b = shut_built shut (built_built there b)

  pub rest_listed : (x : Message) → Rest K x → L x
  rest_listed x (b, u, z) = go u z (composed b)
    where
      go : {x : Message} → Uncomposed K x → (x ≡ atom 0 → ⊥) → Comp L x → L x
      go u z Comp.own = absurd (z refl)
      go u z (Comp.base h) = h
      go u z (Comp.makes t p q) = absurd (u _ _ t (built_built back (comp_built p)) (built_built back (comp_built q)))

  pub listed_rest : (x : Message) → L x → ((a b : Message) → Made x a b → Comp L a → Comp L b → ⊥) → (x ≡ atom 0 → ⊥) → Rest K x
  listed_rest x h u z = (back x h, λ a b t p q. u a b t (composed p) (composed q), z)
