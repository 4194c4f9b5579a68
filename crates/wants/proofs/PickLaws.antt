-- The row that a loop makes of what it picks.
use mathlib.Core.Path.{◌≡◌, refl, sym, ◌∙◌, ap, subst}
use mathlib.Core.Logic.{◌⊎◌, inl, inr}
use mathlib.Core.Bool.{Bool, true, false}
use mathlib.Core.List.{List}
use Prim.Native.Nat.{ℕ, ◌+◌, ◌≤◌, ◌<◌}
use native.Mathlib.Omega.{arith}
use lib.ListN.{length, set, length-set}
use lib.Seq.{get_or-set_other}
use borrow.Author.Count.{below_more}
use Rattle.std.specs.Prelude.{Option, Some, None}
use Rattle.std.specs.Bool.{then_some}
use Rattle.model.proofs.Finite.{eq?}
use Rattle.theory.specs.Cells.{class_at, On}
use Rattle.knowledge.specs.Knowledge.{MarkRow}
use Rattle.theory.specs.Decides.{Decides}
use Rattle.theory.proofs.MarkRows.{set_kept, set_on}
use Rattle.wants.specs.Starts.{Wider, Picks}

-- One more turn of the loop.
module _ {P : ℕ → Option ℕ → Type 0} {m r : List ℕ} {c : ℕ} (w : Picks P m r c) {k : Option ℕ} (p : P c k) where
  pub picks_mark : {t : ℕ} → k ≡ Some t → t ≤ 128 → Picks P m (set r t 1) (c + 1)
  picks_mark {t} e l =
      let h : t < length r = omega (arith, w.long) in
      record {
        long = length-set r t 1 ∙ w.long;
        kept = λ d o. set_kept r t h d (w.kept d o);
        told = below_more (λ d. (k : Option ℕ) × P d k × ((i : ℕ) → k ≡ Some i → On (set r t 1) i)) c
            (λ d l. let (j, q, o) = w.told d l in (j, q, λ i z. set_kept r t h i (o i z)))
            (k, p, λ i z. let same : t ≡ i = cc in subst (On (set r t 1)) same (set_on r t h));
        only = λ d. elim (eq? d t) [
          | inl i ↦ inr (subst (On (set r t 1)) (sym i) (set_on r t h), (c, omega arith, subst (P c) (e ∙ ap Some (sym i)) p))
          | inr n ↦ elim (w.only d) [
            | inl i ↦ inl (get_or-set_other r t d 1 0 n ∙ i)
            | inr x ↦ (let (o, (q, i, y)) = x in inr (set_kept r t h d o, (q, omega arith, y)))
          ]
        ];
      }

  pub picks_skip : k ≡ None → Picks P m r (c + 1)
  picks_skip e = record {
    long = w.long;
    kept = w.kept;
    told = below_more (λ d. (k : Option ℕ) × P d k × ((t : ℕ) → k ≡ Some t → On r t)) c w.told (k, p, λ t i. absurd (cc));
    only = λ d. elim (w.only d) [ inl i ↦ inl i | inr x ↦ (let (o, (q, i, y)) = x in inr (o, (q, omega arith, y))) ];
  }

-- Marks that stand for their class, and picks that do.
pub picks_wider : {P : ℕ → Option ℕ → Type 0} {rep m r : List ℕ} {n : ℕ} → ((c t : ℕ) → c < n → P c (Some t) → class_at rep t ≡ t) → MarkRow rep m → Picks P m r n → Wider rep m r
picks_wider {P} {rep} {m} {r} {n} stands row w = record {
  long = w.long;
  marked = record {
    bits = λ c. elim (w.only c) [ inl i ↦ (let b = row.bits c in omega arith) | inr x ↦ (let (o, y) = x in omega arith) ];
    stand = λ c o. elim (w.only c) [ inl i ↦ row.stand c (sym i ∙ o) | inr x ↦ (let (o, (d, l, p)) = x in stands d c l p) ];
  };
  kept = w.kept;
}

-- Where a test is told of each number, the numbers at which it holds are picked.
module _ {P : ℕ → Option ℕ → Type 0} {Q : ℕ → Type 0} {m r : List ℕ} {n : ℕ} (told : (c : ℕ) (k : Option ℕ) → c < n → P c k → (b : Bool) × (k ≡ then_some b c) × Decides b (Q c)) (w : Picks P m r n) where
  pub picks_all : (c : ℕ) → c < n → Q c → On r c
  picks_all c h q =
      let (k, p, o) = w.told c h in
      let (b, e, d) = told c k h p in
      o c (e ∙ go b d)
    where
      go : (b : Bool) → Decides b (Q c) → then_some b c ≡ Some c
      go true d = refl
      go false d = absurd (d.no refl q)

  pub picks_only : (c : ℕ) → On r c → On m c ⊎ ((c < n) × Q c)
  picks_only c o = elim (w.only c) [
    | inl e ↦ inl (sym e ∙ o)
    | inr x ↦ (let (y, (d, h, p)) = x in
        let (b, e, t) = told d (Some c) h p in
        inr (go d h b t e))
  ]
    where
      go : (d : ℕ) → d < n → (b : Bool) → Decides b (Q d) → Some c ≡ then_some b d → (c < n) × Q c
      go d h true t e = let z : d ≡ c = cc in (omega arith, subst Q z (t.yes refl))
      go d h false t e = absurd (cc)
