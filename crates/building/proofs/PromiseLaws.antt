-- Each way to reply keeps the promise, and the promise settles the reply.
use mathlib.Core.Path.{◌≡◌, refl, sym, ◌∙◌, ap, subst}
use mathlib.Core.Logic.{inl, inr}
use mathlib.Core.List.{List}
use mathlib.Core.Option.{Option, some, none}
use Prim.Native.Nat.{ℕ, ◌≤◌, ◌<◌}
use native.Mathlib.Omega.{arith}
use native.Mathlib.Decide.{dec_lt}
use lib.ListN.{length, get_or, take, drop, get_or-append}
use lib.Seq.{ext_get_or}
use Rattle.model.specs.Message.{Built}
use Rattle.model.specs.Case.{File}
use Rattle.model.specs.Format.{Reading, read_file, first_variable}
use Rattle.model.specs.Replies.{MarkList, laid, messages_of, HeardOf, set, unset}
use Rattle.model.specs.Replies.{Marked as Mark}
use Rattle.model.proofs.Settled.{both}
use Rattle.model.proofs.Read.{clash}
use Rattle.theory.specs.Cells.{class_at}
use Rattle.knowledge.specs.declared.heard.Knowledge.{Knowledge}
use Rattle.knowledge.specs.Heard.{FileKnown}
use Rattle.knowledge.proofs.Grow.{marked?}
use Rattle.std.specs.Prelude.{Result, Ok}
use Rattle.refusals.specs.declared.Refusal.{Refusal}
use Rattle.building.specs.Lay.{Lays}
use Rattle.building.specs.Promise.{MarksPromise}
use Rattle.building.proofs.LayLaws.{lays_length, lays_front, lays_laid}

-- ---- the replies

module _ (file before : List ℕ) (f : File) (e : read_file file ≡ Reading.accepted f) where
  same : {g : File} → read_file file ≡ Reading.accepted g → f ≡ g
  same i = cc

  -- The mark of a class is that of its cells.
  mark_of : {r : Knowledge} → FileKnown f r → (c x : ℕ) → x ≡ get_or r.built (class_at r.rep c) 0 → Mark (Built (HeardOf f) (messages_of f c)) x
  mark_of {r} k c x i = elim (marked? k.built_marked (class_at r.rep c)) [
    | inl o ↦ rw (i ∙ o) (set ((k.built c).0 o))
    | inr z ↦ rw (i ∙ z) (unset (λ b. let o = (k.built c).1 b in absurd (omega arith)))
  ]

  pub promise_marks : {r : Knowledge} {after : List ℕ} → first_variable f.cells ≡ none → length f.cells ≤ length before → FileKnown f r →
      Lays (length f.cells) r.rep r.built before after → MarksPromise file before (Ok (length f.cells)) after
  promise_marks {r} {after} v l k w = record {
    refused = λ n p i. clash (cc);
    variable = λ g b i u. (let z = same i in clash (cc));
    short = λ g i u h. absurd (omega (arith, ap (λ x. length x.cells) (same i)));
    marks = λ g i u h. subst Reply (same i) (refl, take (length f.cells) after, (v, lays_length w l, λ c lt. mark_of k c _ (lays_front w l c lt)), lays_laid w l);
  }
    where
      Reply : File → Type 0
      Reply g = (◌≡◌ {A = Result ℕ Refusal} (Ok (length f.cells)) (Ok (length g.cells))) × (list : List ℕ) × MarkList g list × (after ≡ laid list before)

-- ---- the promise settles them

mark_one : {P : Type 0} {x y : ℕ} → Mark P x → Mark P y → x ≡ y
mark_one (set p) (set q) = refl
mark_one (set p) (unset q) = absurd (q p)
mark_one (unset p) (set q) = absurd (p q)
mark_one (unset p) (unset q) = refl

-- A file has one list of marks.
pub mark_list_one : (f : File) (l m : List ℕ) → MarkList f l → MarkList f m → l ≡ m
mark_list_one f l m (v, n, a) (w, k, b) = ext_get_or 0 l m (n ∙ sym k) (λ i h. mark_one (a i (omega arith)) (b i (omega arith)))

module _ {file before : List ℕ} {r r' : Result ℕ Refusal} {after after' : List ℕ} (p : MarksPromise file before r after) (q : MarksPromise file before r' after') where
  settled_file : (f : File) → read_file file ≡ Reading.accepted f → (o : Option ℕ) → first_variable f.cells ≡ o → (r ≡ r') × (after ≡ after')
  settled_file f e (some at) v = both (p.variable f at e v) (q.variable f at e v)
  settled_file f e none v = elim (dec_lt (length before) (length f.cells)) [
    | yes h ↦ both (p.short f e v h) (q.short f e v h)
    | no h ↦ (let (i, l, a, b) = p.marks f e v (omega arith) in let (j, m, c, d) = q.marks f e v (omega arith) in
        (i ∙ sym j, b ∙ (ap (λ x. laid x before) (mark_list_one f l m a c) ∙ sym d)))
  ]

  settled_as : (x : Reading) → read_file file ≡ x → (r ≡ r') × (after ≡ after')
  settled_as (Reading.refused n k) e = both (p.refused n k e) (q.refused n k e)
  settled_as (Reading.accepted f) e = settled_file f e (first_variable f.cells) refl

  pub promise_settled : (r ≡ r') × (after ≡ after')
  promise_settled = settled_as (read_file file) refl

-- Marks that are shown of an accepted file are those that are written, wherever they find room.
pub promise_listed : {file before : List ℕ} {r : Result ℕ Refusal} {after : List ℕ} → MarksPromise file before r after → (f : File) (list : List ℕ) →
    read_file file ≡ Reading.accepted f → MarkList f list → length list ≤ length before → (r ≡ Ok (length list)) × (after ≡ laid list before)
promise_listed {before = before} p f list e (v, n, a) room =
    let (i, l, m, b) = p.marks f e v (omega arith) in
    (i ∙ ap Ok (sym n), b ∙ ap (λ x. laid x before) (mark_list_one f l list m (v, n, a)))

-- ---- a mark that is written

pub promise_mark : {file before : List ℕ} {n : ℕ} {after : List ℕ} → MarksPromise file before (Ok n) after → (f : File) → read_file file ≡ Reading.accepted f →
    (c : ℕ) → c < n → Mark (Built (HeardOf f) (messages_of f c)) (get_or after c 0)
promise_mark {file} {before} {n} {after} p f e c h = go (first_variable f.cells) refl
  where
    go : (o : Option ℕ) → first_variable f.cells ≡ o → Mark (Built (HeardOf f) (messages_of f c)) (get_or after c 0)
    go (some at) v = let z = (p.variable f at e v).0 in clash (cc)
    go none v = elim (dec_lt (length before) (length f.cells)) [
      | yes s ↦ (let z = (p.short f e v s).0 in clash (cc))
      | no s ↦
          (let (z, list, (_, size, marks), k) = p.marks f e v (omega arith) in
          let i : n ≡ length f.cells = cc in
          let front : get_or after c 0 ≡ get_or list c 0 = ap (λ (l : List ℕ). get_or l c 0) k ∙ get_or-append list (drop (length list) before) 0 c (omega arith) in
          subst (Mark (Built (HeardOf f) (messages_of f c))) (sym front) (marks c (omega arith)))
    ]
