-- Links: none at first, one cell more, and a walk down them, which misses no cell that is alike.
use mathlib.Core.Path.{◌≡◌, refl, sym, ◌∙◌, subst}
use mathlib.Core.List.{List}
use mathlib.Core.Logic.{inl, inr}
use Prim.Native.Nat.{ℕ, ◌+◌, ◌≤◌, ◌<◌}
use native.Mathlib.Omega.{arith}
use native.Mathlib.Decide.{dec_lt}
use lib.ListN.{length, get_or, set, length-set, replicate, length-replicate}
use lib.Seq.{get_or-set_same, get_or-set_other}
use borrow.Author.Count.{below_more}
use Rattle.model.specs.Case.{Table}
use Rattle.model.proofs.Finite.{eq?}
use Rattle.model.proofs.Rows.{zeros}
use Rattle.theory.specs.Classes.{Alike}
use Rattle.classes.specs.Links.{key_of, Parted, Linkable, Behind, Linked, Leads, Downward}
use Rattle.classes.proofs.KeyLaws.{alike_key, alike_parted}

-- What holds of the entry i and of all others holds of the row with v at i.
set_each : (P : ℕ → ℕ → Type 0) (l : List ℕ) (i v : ℕ) → i < length l → ((j : ℕ) → (j ≡ i → ⊥) → P j (get_or l j 0)) → P i v →
    (j : ℕ) → P j (get_or (set l i v) j 0)
set_each P l i v h other here j = elim (eq? j i) [
  | inl e ↦ subst (λ (x : ℕ). P x (get_or (set l i v) x 0)) (sym e) (subst (P i) (sym (get_or-set_same l i v 0 h)) here)
  | inr ne ↦ subst (P j) (sym (get_or-set_other l i j v 0 ne)) (other j ne)
]

-- ---- links lead down

pub down_none : Downward 0 (replicate 256 0) (replicate 129 0)
down_none =
    record {
      bytes = length-replicate {A = ℕ} 256 0;
      long = length-replicate {A = ℕ} 129 0;
      below = λ k. omega (arith, zeros 256 k);
      lower = λ d. omega (arith, zeros 129 d);
    }

module _ {c : ℕ} {tops links : List ℕ} (w : Downward c tops links) where
  pub down_skip : Downward (c + 1) tops links
  down_skip = record { bytes = w.bytes; long = w.long; below = λ k. omega (arith, w.below k); lower = w.lower }

  pub down_more : (k : ℕ) → k < 256 → c < 129 → Downward (c + 1) (set tops k (c + 1)) (set links c (get_or tops k 0))
  down_more k hk hc =
      record {
        bytes = length-set tops k (c + 1) ∙ w.bytes;
        long = length-set links c (get_or tops k 0) ∙ w.long;
        below = set_each (λ _ v. v ≤ c + 1) tops k (c + 1) (omega (arith, w.bytes)) (λ j _. omega (arith, w.below j)) (omega arith);
        lower = set_each (λ d v. v ≤ d) links c (get_or tops k 0) (omega (arith, w.long)) (λ d _. w.lower d) (w.below k);
      }

-- ---- links are right

module _ {T : Table} {cls : ℕ → ℕ} where
  behind_skip : {k c at : ℕ} → Behind T cls k c at → (Linkable T cls c → key_of cls (T c) ≡ k → ⊥) → Behind T cls k (c + 1) at
  behind_skip {k} {c} {at} b bar =
      record { some = b.some; none = below_more (λ (d : ℕ). at ≤ d → Linkable T cls d → key_of cls (T d) ≡ k → ⊥) c b.none (λ _. bar) }

  behind_here : {k c : ℕ} → Linkable T cls c → k ≡ key_of cls (T c) → Behind T cls k (c + 1) (c + 1)
  behind_here {k} {c} l e =
      record {
        some = λ d i. (let j : c ≡ d = omega arith in subst (λ (x : ℕ). Linkable T cls x × (key_of cls (T x) ≡ k)) j (l, sym e));
        none = λ d h a. absurd (omega arith);
      }

  -- The cells that stand for their class and are alike c are linkable and have its key.
  behind_apart : {c k hi at : ℕ} → Parted (T c) → Behind T cls k hi at → k ≡ key_of cls (T c) → (d : ℕ) → at ≤ d → d < hi → cls d ≡ d →
      Alike cls (T c) (T d) → ⊥
  behind_apart parts b e d l h own a = b.none d h l (own, alike_parted a parts) (sym (alike_key a) ∙ sym e)

  pub linked_none : {tops links : List ℕ} → Downward 0 tops links → Linked T cls 0 tops links
  linked_none w =
      record {
        heads = λ k. record { some = λ d e. absurd (omega (arith, w.below k)); none = λ d h. absurd (omega arith) };
        chained = λ d h. absurd (omega arith);
      }

  module _ {c : ℕ} {tops links : List ℕ} (w : Linked T cls c tops links) where
    pub linked_skip : (Linkable T cls c → ⊥) → Linked T cls (c + 1) tops links
    linked_skip bar =
        record {
          heads = λ k. behind_skip (w.heads k) (λ l _. bar l);
          chained = below_more (λ (d : ℕ). Linkable T cls d → Behind T cls (key_of cls (T d)) d (get_or links d 0)) c w.chained (λ l. absurd (bar l));
        }

    module _ (l : Linkable T cls c) {k : ℕ} (e : k ≡ key_of cls (T c)) where
      head_key : Behind T cls (key_of cls (T c)) c (get_or tops k 0)
      head_key = subst (λ (x : ℕ). Behind T cls x c (get_or tops k 0)) e (w.heads k)

      pub linked_leads : Leads T cls links (get_or tops k 0) c
      linked_leads = record { parts = l.1; head = head_key; chained = w.chained }

      pub linked_more : k < length tops → c < length links → Linked T cls (c + 1) (set tops k (c + 1)) (set links c (get_or tops k 0))
      linked_more hk hc =
          record {
            heads = set_each (λ j v. Behind T cls j (c + 1) v) tops k (c + 1) hk (λ j ne. behind_skip (w.heads j) (λ _ i. ne (sym i ∙ sym e)))
                (behind_here l e);
            chained = set_each (λ d v. d < c + 1 → Linkable T cls d → Behind T cls (key_of cls (T d)) d v) links c (get_or tops k 0) hc
                (λ d ne h. w.chained d (omega arith)) (λ _ _. head_key);
          }

-- ---- a walk down the links

-- The next cell has the key of c, and from there on no cell below best that stands for its class is alike c.
pub record Walk (T : Table) (cls : ℕ → ℕ) (c at best : ℕ) : Type 0 where
  pub some : (d : ℕ) → at ≡ d + 1 → Linkable T cls d × (key_of cls (T d) ≡ key_of cls (T c))
  pub missed : (d : ℕ) → at ≤ d → d < best → cls d ≡ d → Alike cls (T c) (T d) → ⊥

module _ {T : Table} {cls : ℕ → ℕ} {links : List ℕ} {top c : ℕ} (w : Leads T cls links top c) where
  pub walk_start : Walk T cls c top c
  walk_start = record { some = w.head.some; missed = behind_apart w.parts w.head refl }

  module _ {at best d : ℕ} (v : Walk T cls c at best) (i : at ≡ d + 1) (h : d < c) where
    next_behind : Behind T cls (key_of cls (T d)) d (get_or links d 0)
    next_behind = w.chained d h (v.some d i).0

    next_some : (x : ℕ) → get_or links d 0 ≡ x + 1 → Linkable T cls x × (key_of cls (T x) ≡ key_of cls (T c))
    next_some x j = let (l, e) = next_behind.some x j in (l, e ∙ (v.some d i).1)

    next_missed : (x : ℕ) → get_or links d 0 ≤ x → x < d → cls x ≡ x → Alike cls (T c) (T x) → ⊥
    next_missed = behind_apart w.parts next_behind (v.some d i).1

    -- The cell d is the best one now, or it is not alike c.
    pub walk_take : Walk T cls c (get_or links d 0) d
    walk_take = record { some = next_some; missed = next_missed }

    pub walk_skip : (cls d ≡ d → Alike cls (T c) (T d) → ⊥) → Walk T cls c (get_or links d 0) best
    walk_skip bar =
        record {
          some = next_some;
          missed = λ x l b. elim (dec_lt x d) [
            | yes a ↦ next_missed x l a
            | no a ↦ elim (eq? x d) [
              | inl e ↦ subst (λ (y : ℕ). cls y ≡ y → Alike cls (T c) (T y) → ⊥) (sym e) bar
              | inr ne ↦ v.missed x (omega arith) b
            ]
          ];
        }
