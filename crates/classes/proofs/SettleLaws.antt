-- What a binding step means, and that cells which ask for nothing make the classes closed.
use mathlib.Core.Path.{◌≡◌, refl, sym, ◌∙◌, subst}
use mathlib.Core.Bool.{Bool, true, false, true≢false, false≢true}
use mathlib.Core.List.{List}
use mathlib.Core.Logic.Iff
use mathlib.Core.Logic.{◌↔◌, inl, inr}
use Prim.Native.Nat.{ℕ, ◌+◌, ◌-◌, ◌≤◌, ◌<◌}
use native.Mathlib.Omega.{arith}
use native.Mathlib.Decide.{dec_lt}
use Rattle.std.specs.Prelude.{Some, None, Result, Ok, Err}
use Rattle.std.specs.Result.{result_ok}
use Rattle.std.proofs.lemmas.Option.{same_Some, none-some}
use Rattle.model.specs.Message.{Message}
use Rattle.model.specs.Case.{Cell, AT, VA, Table, Reads, Part, in_arg, in_left, in_right}
use Rattle.model.specs.Stored.{table_in}
use Rattle.model.proofs.Finite.{eq?}
use Rattle.model.proofs.Read.{clash}
use Rattle.theory.specs.Cells.{TableWords, class_at}
use Rattle.theory.specs.Classes.{Alike, Closed, Sat}
use Rattle.theory.proofs.Classes.{forced}
use Rattle.theory.proofs.Rows.{rows_part}
use Rattle.classes.specs.declared.alike.Diff.{Diff}
use Rattle.classes.specs.declared.alike.Diff.TheVariants.{Same, Clash, Parts}
use Rattle.classes.specs.declared.closing.Clash as closing
use Rattle.classes.specs.Kept.{Kept, class_count, Unmet, Joined}
use Rattle.classes.specs.Differ.{Facing, args, lefts, rights, Told}
use Rattle.classes.specs.Settle.{Shut, Asks, Moved, BindsAll}
use Rattle.classes.proofs.DifferLaws.{facing_same, alike_any}

facing_parts : {k k' : Cell} {x y : ℕ} → Facing k k' x y → Part k x × Part k' y
facing_parts args = (in_arg, in_arg)
facing_parts lefts = (in_left, in_left)
facing_parts rights = (in_right, in_right)

-- What a comparison with the cell that stands for the class asks for.
module _ {n : ℕ} {words rep : List ℕ} (w : TableWords n words) (K : Kept n (table_in words) rep) (c : ℕ)
    (s : table_in words c ≡ VA → ⊥) where
  abbrev T : Table
  T = table_in words

  force : (m : ℕ → Message) → Reads T m m → Sat (class_at rep) m → Alike m (T c) (T (class_at rep c))
  force m mr sat = forced T (class_at rep) m mr sat c s (K.reps.solid c s)

  pub told_asks : (r : Diff) → Told (class_at rep) (T c) (T (class_at rep c)) r → Asks n T rep c r
  told_asks Same t = λ _. t
  told_asks Clash t = λ m mr sat. t (alike_any (force m mr sat))
  told_asks (Parts x y) (f, ne) =
      let (p, q) = facing_parts f in
      ((rows_part w c x p).1, (rows_part w (class_at rep c) y q).1, ne, λ m mr sat. facing_same f (force m mr sat))

-- An answer that is not Parts: there is a clash, or nothing is asked for.
pub tag_none : (n : ℕ) (T : Table) (rep : List ℕ) (c : ℕ) (d : Diff) → ((x y : ℕ) → d ≡ Parts x y → ⊥) → Asks n T rep c d →
    (d ≡ Clash → Unmet T (class_at rep)) × (d ≡ Same → Shut T (class_at rep) c)
tag_none n T rep c Same h a = (λ i. clash (cc), λ _. a)
tag_none n T rep c Clash h a = (λ _. a, λ i. clash (cc))
tag_none n T rep c (Parts x y) h a = absurd (h x y refl)

-- ---- joins that keep P

module _ {T : Table} {P : List ℕ → Type 0} where
  pub moved_none : (rep : List ℕ) → P rep → Moved T P rep rep false
  moved_none rep p = record { holds = p; sat = λ m mr. Iff.rfl; most = omega arith; fewer = λ e. absurd (false≢true e); still = λ _. refl }

  -- Of two cells of different classes that all messages that satisfy the classes make equal.
  pub moved_join : {n : ℕ} {rep out : List ℕ} {x y : ℕ} → Joined n T rep x y out → P out → (class_at rep x ≡ class_at rep y → ⊥) →
      ((m : ℕ → Message) → Reads T m m → Sat (class_at rep) m → m x ≡ m y) → Moved T P rep out true
  moved_join j p ne force =
      record {
        holds = p;
        sat = λ m mr. (λ s. (j.sat m).1 (s, force m mr s), λ s. ((j.sat m).0 s).0);
        most = j.most;
        fewer = λ _. j.fewer ne;
        still = λ e. absurd (true≢false e);
      }

  module _ {a b o : List ℕ} {old new : Bool} (v : Moved T P a b old) (w : Moved T P b o new) where
    -- A step that joined, and one that did not.
    pub moved_more : new ≡ true → Moved T P a o true
    moved_more e =
        record {
          holds = w.holds;
          sat = λ m mr. Iff.trans (v.sat m mr) (w.sat m mr);
          most = omega (arith, v.most, w.most);
          fewer = λ _. omega (arith, v.most, w.fewer e);
          still = λ i. absurd (true≢false i);
        }

    pub moved_stay : new ≡ false → Moved T P a o old
    moved_stay e = subst (λ (l : List ℕ). Moved T P a l old) (sym (w.still e)) v

-- The classes out, of which P holds, after some sweeps over rep.
pub record Stage (T : Table) (P : List ℕ → Type 0) (rep out : List ℕ) : Type 0 where
  pub holds : P out
  pub sat : (m : ℕ → Message) → Reads T m m → Sat (class_at rep) m ↔ Sat (class_at out) m
  pub most : class_count out ≤ class_count rep

module _ {T : Table} {P : List ℕ → Type 0} {rep : List ℕ} where
  pub stage_more : {out next : List ℕ} {changed : Bool} → Stage T P rep out → Moved T P out next changed → Stage T P rep next
  stage_more v w = record { holds = w.holds; sat = λ m mr. Iff.trans (v.sat m mr) (w.sat m mr); most = omega (arith, v.most, w.most) }

-- ---- a sweep

-- A sweep over the cells below n + 1 that has come down to the cell c.
pub record Sweeping (n : ℕ) (T : Table) (rep out : List ℕ) (changed : Bool) (c : ℕ) : Type 0 where
  pub moved : Moved T (Kept n T) rep out changed
  pub shut : changed ≡ false → (i : ℕ) → c ≤ i → i < n + 1 → Shut T (class_at rep) i

module _ {n : ℕ} {T : Table} {rep out : List ℕ} {changed : Bool} {c : ℕ} (t : Sweeping n T rep out changed c) where
  pub sweeping_no : Unmet T (class_at out) → Unmet T (class_at rep)
  sweeping_no none m mr s = none m mr ((t.moved.sat m mr).0 s)

  module _ {next : List ℕ} {new : Bool} (w : Moved T (Kept n T) out next new) where
    pub sweeping_more : new ≡ true → Sweeping n T rep next true c
    sweeping_more e = record { moved = moved_more t.moved w e; shut = λ i. absurd (true≢false i) }

    pub sweeping_stay : new ≡ false → Shut T (class_at out) (c - 1) → Sweeping n T rep next changed (c - 1)
    sweeping_stay e s =
        record {
          moved = moved_stay t.moved w e;
          shut = λ i x h l. elim (eq? x (c - 1)) [
            | inl at ↦ subst (Shut T (class_at rep)) (sym at) (subst (λ (k : List ℕ). Shut T (class_at k) (c - 1)) (t.moved.still i) s)
            | inr ne ↦ t.shut i x (omega arith) l
          ];
        }

-- What a sweep says where `ok` of its reply is known.
module _ (n : ℕ) (T : Table) (rep : List ℕ) (upto : ℕ) (out : List ℕ) where
  pub binds_some : (r : Result Bool closing.Clash) (changed : Bool) → BindsAll n T rep upto out r → Some changed ≡ result_ok r → BindsAll n T rep upto out (Ok changed)
  binds_some (Ok x) changed b e = rw (same_Some changed x e) b
  binds_some (Err e) changed b i = absurd (none-some changed (sym i))

  pub binds_none : (r : Result Bool closing.Clash) → BindsAll n T rep upto out r → None ≡ result_ok r → Unmet T (class_at rep)
  binds_none (Ok x) b e = absurd (none-some x e)
  binds_none (Err e) b i = b

-- Cells that ask for nothing, up to the first beyond the table's: the classes are closed.
module _ {n : ℕ} {words rep : List ℕ} (w : TableWords n words) (K : Kept n (table_in words) rep)
    (shut : (c : ℕ) → c < n + 1 → Shut (table_in words) (class_at rep) c) where
  abbrev S : Table
  S = table_in words

  far : (c : ℕ) → (S c ≡ VA → ⊥) → S c ≡ AT 0 → S n ≡ AT 0 → Alike (class_at rep) (S c) (S (class_at rep c))
  far c s e i =
      let at : S n ≡ S c = i ∙ sym e in
      subst (λ (k : ℕ). Alike (class_at rep) (S c) (S k)) (K.names n c 0 i e)
      (subst (λ (k : Cell). Alike (class_at rep) k (S (class_at rep n))) at (shut n (omega arith) (λ v. s (sym at ∙ v))))

  pub shut_closed : Closed S (class_at rep)
  shut_closed c s = elim (dec_lt c n) [
    | yes h ↦ shut c (omega arith) s
    | no h ↦ far c s (w.beyond c (omega arith)) (w.beyond n (omega arith))
  ]
