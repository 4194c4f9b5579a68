-- Laws of the steps, the size of a message, and what is composed without taking apart.
use mathlib.Core.Path.{◌≡◌, refl}
use mathlib.Core.Logic.{◌⊎◌, inl, inr}
use Prim.Native.Nat.{ℕ, ◌+◌, ◌<◌}
use native.Mathlib.Omega.{arith}
use Rattle.model.specs.Message.{App, Pair, Seal, Message, atom, one, two, Made, pairs, seals, apps, Opens, lefts, rights, bodies, Built, Held, arg, left, right}

-- Of the steps.
pub made? : (x : Message) → ((a : Message) × (b : Message) × Made x a b) ⊎ ((a b : Message) → Made x a b → ⊥)
made? (atom n) = inr (λ a b h. elim h [ ])
made? (one (App f) x) = inl (x, x, apps)
made? (two Pair a b) = inl (a, b, pairs)
made? (two Seal a b) = inl (a, b, seals)

pub made_one : {x a b a' b' : Message} → Made x a b → Made x a' b' → (a ≡ a') × (b ≡ b')
made_one pairs pairs = (refl, refl)
made_one seals seals = (refl, refl)
made_one apps apps = (refl, refl)

pub opens_made : {x k y a b : Message} → Opens x k y → Made x a b → (y ≡ a) ⊎ (y ≡ b)
opens_made lefts pairs = inl refl
opens_made rights pairs = inr refl
opens_made bodies seals = inl refl

pub made_atom : {n : ℕ} {a b : Message} → Made (atom n) a b → ⊥
made_atom h = elim h [ ]

pub opens_atom : {n : ℕ} {k y : Message} → Opens (atom n) k y → ⊥
opens_atom h = elim h [ ]

pub held_atom : {n : ℕ} {y : Message} → Held y (atom n) → ⊥
held_atom h = elim h [ ]

-- `size` counts the nodes of a message; a part is smaller.
pub size : Message → ℕ
size (atom n) = 1
size (one g a) = 1 + size a
size (two h a b) = 1 + size a + size b

pub held_size : {x y : Message} → Held y x → size y < size x
unfolding size
held_size arg = omega arith
held_size left = omega arith
held_size right = omega arith

pub made_held : {x a b : Message} → Made x a b → Held a x × Held b x
made_held pairs = (left, right)
made_held seals = (left, right)
made_held apps = (arg, arg)

-- `Comp K x`: x is put together from the messages of K and his own name, by composing alone.
pub data Comp (K : Message → Type 0) : Message → Type 0 where
  own : Comp K (atom 0)
  base : {x : Message} → K x → Comp K x
  makes : {x a b : Message} → Made x a b → Comp K a → Comp K b → Comp K x

pub comp_built : {K : Message → Type 0} {x : Message} → Comp K x → Built K x
comp_built own = Built.own
comp_built (base h) = Built.known h
comp_built (makes s p q) = Built.makes s (comp_built p) (comp_built q)

-- What is built from built messages is built.
pub built_built : {K L : Message → Type 0} → ((x : Message) → K x → Built L x) → {x : Message} → Built K x → Built L x
built_built f Built.own = Built.own
built_built f (Built.known h) = f _ h
built_built f (Built.makes s p q) = Built.makes s (built_built f p) (built_built f q)
built_built f (Built.opens s p q) = Built.opens s (built_built f p) (built_built f q)

-- More known messages, more is built.
pub built_more : {K L : Message → Type 0} → ((x : Message) → K x → L x) → {x : Message} → Built K x → Built L x
built_more f = built_built (λ x h. Built.known (f x h))

pub comp_more : {K L : Message → Type 0} → ((x : Message) → K x → L x) → {x : Message} → Comp K x → Comp L x
comp_more f Comp.own = Comp.own
comp_more f (Comp.base h) = Comp.base (f _ h)
comp_more f (Comp.makes s p q) = Comp.makes s (comp_more f p) (comp_more f q)

-- What he can build from nothing.
abbrev pub Own : Message → Type 0
Own x = Comp (λ y. ⊥) x

pub own_comp : {K : Message → Type 0} {x : Message} → Own x → Comp K x
own_comp = comp_more (λ x h. absurd h)

pub own_built : {K : Message → Type 0} {x : Message} → Own x → Built K x
own_built h = comp_built (own_comp h)
