-- A relabelling of the class array, as far as it has come, and what it means.
use mathlib.Core.Path.{◌≡◌, sym, ◌∙◌}
use mathlib.Core.Logic.{inl, inr}
use mathlib.Core.List.{List}
use Prim.Native.Nat.{ℕ, ◌≤◌, ◌<◌}
use native.Mathlib.Omega.{arith}
use lib.ListN.{length, get_or}
use lib.Dec.{eqb}
use borrow.Author.Tests.{eq-eqb, ne_eqb, eqb-true}
use Rattle.model.specs.Case.{Table}
use Rattle.model.proofs.Finite.{eq?}
use Rattle.theory.specs.Cells.{class_at}
use Rattle.theory.specs.Classes.{Joins}
use Rattle.theory.proofs.Classes.{sat_joins}
use Rattle.theory.proofs.Merge.{relabel_joins, relabel_reps}
use Rattle.classes.specs.Kept.{Kept, class_count, Stands, Relabelled, Joined}
use Rattle.classes.proofs.Count.{count_lt}

-- y is x, or r if x is o.
abbrev pub Label : ℕ → ℕ → ℕ → ℕ → Type 0
Label o r x y = (x ≡ o → y ≡ r) × ((x ≡ o → ⊥) → y ≡ x)

-- The entries below n are relabelled, the others are as they were.
pub record Relabelling (rep : List ℕ) (o r : ℕ) (out : List ℕ) (n : ℕ) : Type 0 where
  pub long : length out ≡ length rep
  pub done : (i : ℕ) → i < n → Label o r (get_or rep i 0) (get_or out i 0)
  pub rest : (i : ℕ) → n ≤ i → get_or out i 0 ≡ get_or rep i 0

-- Two classes in one.
module _ (n : ℕ) (T : Table) (rep : List ℕ) (few : n ≤ 128) (K : Kept n T rep) where
  abbrev cls : ℕ → ℕ
  cls = class_at rep

  module _ (a b : ℕ) (inside-a : a < n) (inside-b : b < n) (out : List ℕ) (differ : class_at rep a ≡ class_at rep b → ⊥) (stand : Stands T (class_at rep a) (class_at rep b))
      (w : Relabelled rep (class_at rep b) (class_at rep a) out) where
    abbrev new : ℕ → ℕ
    new = class_at out

    joins : Joins cls (cls a) (cls b) new
    joins = relabel_joins T cls new (cls b) (cls a) K.reps (K.reps.idem b) (K.reps.idem a) differ w.names

    one_class : (c d : ℕ) → cls c ≡ cls d → new c ≡ new d
    one_class c d e = cc (joins.coarser c, joins.coarser d)

    inside : (c : ℕ) → c < n → new c < n
    inside c h = elim (eq? (cls c) (cls b)) [
      | inl e ↦ (let i = (w.names c).0 e in let j = K.inside a inside-a in omega arith)
      | inr ne ↦ (let i = (w.names c).1 ne in let j = K.inside c h in omega arith)
    ]

    own : (c : ℕ) → new c ≡ c → cls c ≡ c
    own c e = elim (eq? (cls c) (cls b)) [
      | inl i ↦ (let j : cls a ≡ c = sym ((w.names c).0 i) ∙ e in absurd (differ (cc (K.reps.idem a))))
      | inr ne ↦ sym ((w.names c).1 ne) ∙ e
    ]

    gone : new (cls b) ≡ cls b → ⊥
    gone e = differ (sym ((w.names (cls b)).0 (K.reps.idem b)) ∙ e)

    less : class_count out < class_count rep
    less =
        count_lt (λ c. eqb (cls c) c) (λ c. eqb (new c) c) (λ c e. eq-eqb (cls c) c (own c (eqb-true (new c) c e)))
        (cls b) (eq-eqb (cls (cls b)) (cls b) (K.reps.idem b)) (ne_eqb (new (cls b)) (cls b) gone) 129 (omega (arith, K.inside b inside-b))

    pub join_relabel : Joined n T rep a b out
    join_relabel =
        record {
          kept = record {
            long = w.long ∙ K.long;
            reps = relabel_reps T cls new (cls b) (cls a) K.reps (K.reps.idem b) (K.reps.idem a) differ w.names stand;
            names = λ c d k e i. one_class c d (K.names c d k e i);
            inside = inside;
          };
          sat = λ m. let j = sat_joins cls (cls a) (cls b) new m joins in
              (λ s. (let (t, e) = j.0 s in (t, cc (t a, t b))), λ (t, e). j.1 (t, cc (t a, t b)));
          most = omega (arith, less);
          fewer = λ _. less;
        }

pub joined_sym : (n : ℕ) (T : Table) (rep : List ℕ) (a b : ℕ) (out : List ℕ) → Joined n T rep a b out → Joined n T rep b a out
joined_sym n T rep a b out j =
    record {
      kept = j.kept;
      sat = λ m. (λ s. (let (t, e) = (j.sat m).0 s in (t, sym e)), λ (t, e). (j.sat m).1 (t, sym e));
      most = j.most;
      fewer = λ ne. j.fewer (λ e. ne (sym e));
    }
