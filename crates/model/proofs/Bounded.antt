-- What cells show has names and functions of the format; so two files that let him build the same messages of the format let him build the same of all.
use mathlib.Core.Path.{◌≡◌, refl, sym, subst}
use mathlib.Core.Logic.{◌↔◌}
use mathlib.Core.List.{List}
use Prim.Native.Nat.{ℕ, zero, suc}
use native.Mathlib.Omega.{arith}
use Rattle.model.specs.Message.{Message, atom, App, Bounded, Built}
use Rattle.model.specs.Case.{Cell, AT, VA, ONE, TWO, File, table_of, shown, look}
use Rattle.model.specs.Format.{read_file, accepted}
use Rattle.model.specs.Replies.{HeardOf}
use Rattle.model.proofs.Accepted.{Bytes, Small, small_file}
use Rattle.model.proofs.Steps.{built_built}

shown_bounded : (cells : List Cell) → Small cells → (n c : ℕ) → Bounded (shown (table_of cells) (λ c. atom 0) n c)
unfolding shown
shown_bounded cells s zero c = omega arith
shown_bounded cells s (suc n) c = at (table_of cells c) refl (λ d. shown_bounded cells s n d)
  where
    at : (k : Cell) → table_of cells c ≡ k → ((d : ℕ) → Bounded (shown (table_of cells) (λ c. atom 0) n d)) → Bounded (look (atom 0) (shown (table_of cells) (λ c. atom 0) n) k)
    at (AT x) e h = s.names c x e
    at VA e h = omega arith
    at (ONE (App f) a) e h = (s.functions c f a e, h a)
    at (TWO t l r) e h = (h l, h r)

-- Learnt messages are of the format, and what is built from built messages is built.
bounded_built : (f g : File) → Small f.cells → ((x : Message) → Bounded x → Built (HeardOf f) x → Built (HeardOf g) x) → {x : Message} → Built (HeardOf f) x → Built (HeardOf g) x
bounded_built f g s h = built_built (λ x k. let (c, p, e, i) = k in h x (subst Bounded (sym i) (shown_bounded f.cells s (suc c) c)) (Built.known k))

pub same_bounded : (s s' : List ℕ) (f g : File) → Bytes s → Bytes s' → read_file s ≡ accepted f → read_file s' ≡ accepted g →
    ((x : Message) → Bounded x → Built (HeardOf f) x ↔ Built (HeardOf g) x) → (x : Message) → Built (HeardOf f) x ↔ Built (HeardOf g) x
same_bounded s s' f g b b' e e' h x = (bounded_built f g (small_file s f b e) (λ x p. (h x p).0), bounded_built g f (small_file s' g b' e') (λ x p. (h x p).1))
