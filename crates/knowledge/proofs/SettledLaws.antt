-- What the contracts that other crates rely on settle: two replies for one input, rows of 129 bytes, are equal.
use mathlib.Core.Path.{◌≡◌, sym, ◌∙◌, subst}
use mathlib.Core.Logic.{◌↔◌, inl, inr}
use mathlib.Core.Bool.{cond}
use mathlib.Core.List.{List}
use mathlib.Core.Option.{some, none}
use Prim.Native.Nat.{ℕ, ◌≤◌, ◌<◌}
use native.Mathlib.Omega.{arith}
use native.Mathlib.Decide.{dec_lt}
use lib.Dec.{eqb}
use lib.ListN.{length, get_or, get_or-eq_default}
use borrow.Author.Tests.{eq-eqb, ne_eqb}
use Rattle.model.specs.Case.{LN, Table, Run, Lower}
use Rattle.model.proofs.Read.{clash}
use Rattle.theory.specs.Cells.{class_at, On}
use Rattle.theory.specs.Level.{Mark, built}
use Rattle.theory.proofs.MarkRows.{on?}
use Rattle.classes.proofs.SettledLaws.{row_ext, start_settled}
use Rattle.knowledge.specs.declared.Marks.{Marks}
use Rattle.knowledge.specs.declared.heard.Knowledge.{Knowledge}
use Rattle.knowledge.specs.Knowledge.{MarkRow, Learns, Starts, Opened}
use Rattle.knowledge.specs.Sweeps.{OwnMarks}
use Rattle.knowledge.specs.Heard.{HeardOpened}

-- Two rows of zeros and ones with the same marks are equal.
pub bits_ext : (r r' : List ℕ) → ((c : ℕ) → get_or r c 0 ≤ 1) → ((c : ℕ) → get_or r' c 0 ≤ 1) → length r ≡ 129 → length r' ≡ 129 →
    ((c : ℕ) → On r c → On r' c) → ((c : ℕ) → On r' c → On r c) → r ≡ r'
bits_ext r r' w w' l l' to from =
    row_ext r r' (l ∙ sym l') (λ c h. elim (on? r c) [
      | inl o ↦ o ∙ sym (to c o)
      | inr off ↦ elim (on? r' c) [
        | inl o ↦ absurd (off (from c o))
        | inr off' ↦ (let z : get_or r c 0 ≡ 0 = zero (get_or r c 0) (w c) off in let z' : get_or r' c 0 ≡ 0 = zero (get_or r' c 0) (w' c) off' in z ∙ sym z')
      ]
    ])
  where
    zero : (x : ℕ) → x ≤ 1 → (x ≡ 1 → ⊥) → x ≡ 0
    zero x h ne = elim (dec_lt 0 x) [ yes p ↦ absurd (ne (omega arith)) | no p ↦ omega arith ]

-- Two rows of marks with the same marks are equal.
pub marks_ext : {rep : List ℕ} (r r' : List ℕ) → MarkRow rep r → MarkRow rep r' → length r ≡ 129 → length r' ≡ 129 →
    ((c : ℕ) → On r c → On r' c) → ((c : ℕ) → On r' c → On r c) → r ≡ r'
marks_ext r r' w w' = bits_ext r r' w.bits w'.bits

-- Two rows of marks that say the same of every class have the same marks.
by_class : {rep : List ℕ} (r r' : List ℕ) {P : ℕ → Type 0} → MarkRow rep r → ((c : ℕ) → On r (class_at rep c) ↔ P c) → ((c : ℕ) → On r' (class_at rep c) ↔ P c) →
    (c : ℕ) → On r c → On r' c
by_class r r' w h h' c o =
    let e = w.stand c o in
    subst (On r') e ((h' c).1 ((h c).0 (subst (On r) (sym e) o)))

pub learn_settled : (rep marks : List ℕ) (c : ℕ) (r r' : List ℕ) → Learns rep marks c r → Learns rep marks c r' → length r ≡ 129 → length r' ≡ 129 → r ≡ r'
learn_settled rep marks c r r' w w' l l' = marks_ext r r' w.marked w'.marked l l' (to r r' w w') (to r' r w' w)
  where
    to : (r r' : List ℕ) → Learns rep marks c r → Learns rep marks c r' → (d : ℕ) → On r d → On r' d
    to r r' w w' d o = elim (w.only d o) [ inl k ↦ w'.kept d k | inr e ↦ subst (On r') (sym e) w'.learnt ]

pub own_marks_settled : (n : ℕ) (rep r r' : List ℕ) → OwnMarks n rep r → OwnMarks n rep r' → length r ≡ 129 → length r' ≡ 129 → r ≡ r'
own_marks_settled n rep r r' w w' l l' = marks_ext r r' w.marked w'.marked l l' (to r r' w w') (to r' r w' w)
  where
    to : (r r' : List ℕ) → OwnMarks n rep r → OwnMarks n rep r' → (d : ℕ) → On r d → On r' d
    to r r' w w' d o = let (e, h) = w.only d o in subst (On r') (sym e) (w'.own (subst (λ x. n ≤ x) e h))

-- ---- `open_known`

-- A run that learns what is marked: at the position q the cell q, if it is marked.
learning : List ℕ → Run
learning start q = cond (eqb (get_or start q 0) 1) (some (LN q)) none

learning_on : (start : List ℕ) (c : ℕ) → On start c → learning start c ≡ some (LN c)
unfolding learning
learning_on start c o = rw (eq-eqb (get_or start c 0) 1 o)

learning_off : (start : List ℕ) (c : ℕ) → (On start c → ⊥) → learning start c ≡ none
unfolding learning
learning_off start c o = rw (ne_eqb (get_or start c 0) 1 o)

learnt_on : (start : List ℕ) (q c : ℕ) → learning start q ≡ some (LN c) → On start c
learnt_on start q c e = elim (on? start q) [
  | inl o ↦ (let i : some (LN q) ≡ some (LN c) = sym (learning_on start q o) ∙ e in let j : q ≡ c = cc in subst (On start) j o)
  | inr o ↦ (let i : none ≡ some (LN c) = sym (learning_off start q o) ∙ e in clash (cc))
]

module _ (T : Table) (rep start : List ℕ) (w : MarkRow rep start) (long : length start ≡ 129) where
  from_marks : Starts T rep (learning start) 129 start
  from_marks = record {
    low = λ c (q, lt, e). (let o = learnt_on start q c e in subst (On start) (sym (w.stand c o)) o);
    high = λ c o. Mark.learnt (c, below c o, learning_on start c o);
  }
    where
      below : (c : ℕ) → On start c → c < 129
      below c o = elim (dec_lt c 129) [ yes h ↦ h | no h ↦ absurd (omega (arith, get_or-eq_default start 0 {n = c} (omega arith))) ]

  pub open_known_settled : (r r' : Marks) → Opened T rep start r → Opened T rep start r' → length r.seen ≡ 129 → length r'.seen ≡ 129 →
      length r.built ≡ 129 → length r'.built ≡ 129 → r ≡ r'
  open_known_settled r r' o o' l l' k k' =
      let s = from_marks in
      let e : r.seen ≡ r'.seen = marks_ext r.seen r'.seen o.seen_marked o'.seen_marked l l'
      (by_class r.seen r'.seen o.seen_marked (o.seen (learning start) 129 s) (o'.seen (learning start) 129 s))
      (by_class r'.seen r.seen o'.seen_marked (o'.seen (learning start) 129 s) (o.seen (learning start) 129 s)) in
      let f : r.built ≡ r'.built = marks_ext r.built r'.built o.built_marked o'.built_marked k k'
      (by_class r.built r'.built o.built_marked (o.built (learning start) 129 s) (o'.built (learning start) 129 s))
      (by_class r'.built r.built o'.built_marked (o'.built (learning start) 129 s) (o.built (learning start) 129 s)) in
      λ i. record { seen = e i; built = f i }

-- ---- `open_heard`
pub open_heard_settled : (n : ℕ) (T : Table) (ev : Run) → Lower T → (r r' : Knowledge) → HeardOpened n T ev r → HeardOpened n T ev r' →
    length r.built ≡ 129 → length r'.built ≡ 129 → r ≡ r'
open_heard_settled n T ev low r r' o o' l l' =
    let e : r.rep ≡ r'.rep = start_settled T low n r.rep r'.rep o.classes o'.classes in
    let m' : MarkRow r.rep r'.built = subst (λ p. MarkRow p r'.built) (sym e) o'.built_marked in
    let d' : (c : ℕ) → On r'.built (class_at r.rep c) ↔ Mark T (class_at r.rep) ev 128 built c =
    subst (λ p. (c : ℕ) → On r'.built (class_at p c) ↔ Mark T (class_at p) ev 128 built c) (sym e) o'.made in
    let f : r.built ≡ r'.built = marks_ext r.built r'.built o.built_marked m' l l'
    (by_class r.built r'.built o.built_marked o.made d') (by_class r'.built r.built m' d' o.made) in
    λ i. record { rep = e i; built = f i }
