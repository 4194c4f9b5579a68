-- The cells of the plan, laid one after another; the lists that it stands for.
use mathlib.Core.Path.{◌≡◌, refl, sym, ◌∙◌, ap, subst}
use mathlib.Core.Bool.{Bool, true, false, cond}
use mathlib.Core.Logic.{◌⊎◌, inl, inr}
use mathlib.Core.List.Memᴰ
use mathlib.Core.List.{List, [], ◌∷◌, ◌++◌, Memᴰ, append-nil}
use Prim.Native.Nat.{ℕ, zero, suc, ◌+◌, ◌≤◌, ◌<◌}
use native.Mathlib.Omega.{arith}
use native.Mathlib.Numerals.{add-one}
use native.Mathlib.Decide.{ℕ_discrete}
use lib.Dec.{eqb}
use lib.ListN.{length, get_or, set, length-set, length-append, length-replicate, get_or-append}
use lib.Seq.{get_or-set_same, get_or-set_other, get_or_at}
use borrow.Author.Tests.{eq-eqb, eqb-true}
use Rattle.model.specs.Case.{Cell}
use Rattle.model.specs.Reduce.{Rising, none, more}
use Rattle.model.specs.Stored.{cell_in, table_in, word_of}
use Rattle.theory.specs.Cells.{On}
use Rattle.reducing.specs.declared.Plan.{Plan}
use Rattle.reducing.specs.Order.{number_at, placed}
use Rattle.reducing.specs.Plan.{up_to, tally, marked, empty_plan, put_row, Laid}

-- ---- marks
pub tally_yes : (b : ℕ) → b ≡ 1 → 1 ≡ tally b
tally_yes b e = ap (λ t. cond t 1 0) (sym (eq-eqb b 1 e))

length_mark : (t : Bool) (n : ℕ) → length (cond t (n ∷ []) []) ≡ cond t 1 0
length_mark true n = refl
length_mark false n = refl

pub marked_more : (l : List ℕ) (n : ℕ) → length (marked l (n + 1)) ≡ length (marked l n) + tally (get_or l n 0)
unfolding marked
marked_more l n =
    ap (λ k. length (marked l k)) (add-one n) ∙ (length-append (marked l n) (cond (eqb (get_or l n 0) 1) (n ∷ []) []) ∙
    ap (λ k. length (marked l n) + k) (length_mark (eqb (get_or l n 0) 1) n))

pub marked_set : (l : List ℕ) (i b n : ℕ) → n ≤ i → marked (set l i b) n ≡ marked l n
unfolding marked
marked_set l i b zero h = refl
marked_set l i b (suc n) h =
    ap (λ k. k ++ cond (eqb (get_or (set l i b) n 0) 1) (n ∷ []) []) (marked_set l i b n (omega arith)) ∙
    ap (λ k. marked l n ++ cond (eqb k 1) (n ∷ []) []) (get_or-set_other l i n b 0 (λ e. omega arith))

-- ---- cells and marks in rows
pub laid_start : (words rep old new bare : List ℕ) → Laid words rep old new bare 0 empty_plan
unfolding marked
laid_start words rep old new bare = record {
  cells = refl;
  table_size = length-replicate {A = ℕ} 128 0;
  learnt_size = length-replicate {A = ℕ} 128 0;
  cells_are = λ j h. absurd (omega arith);
  marks_are = λ j h. absurd (omega arith);
  counts = refl;
  below = omega arith;
}

-- A row set at i, beyond what is told of it.
row_next : {A : Type 0} (g : ℕ → A) (l : List ℕ) (f : ℕ → A) (i at v : ℕ) → at ≡ i → i < length l → g v ≡ f i → ((j : ℕ) → j < i → g (get_or l j 0) ≡ f j) →
    (j : ℕ) → j < i + 1 → g (get_or (set l at v) j 0) ≡ f j
row_next g l f i at v q h e all j lt = elim (ℕ_discrete j i) [
  | yes k ↦ ap (λ a. g (get_or (set l a v) j 0)) q ∙ (ap (λ j. g (get_or (set l i v) j 0)) k ∙ (ap g (get_or-set_same l i v 0 h) ∙ (e ∙ ap f (sym k))))
  | no ne ↦ ap g (get_or-set_other l at j v 0 (λ z. omega arith)) ∙ all j (omega arith)
]

module _ (words rep old new bare : List ℕ) (i : ℕ) (p : Plan) (L : Laid words rep old new bare i p) where
  pub laid_next : i < 128 → (w b : ℕ) → cell_in w ≡ placed (number_at rep new) (table_in words (get_or old i 0)) → b ≡ get_or bare (get_or old i 0) 0 →
      Laid words rep old new bare (i + 1) (put_row p w b)
  laid_next lt w b ew eb =
      let q = L.cells in
      let ts = L.table_size in
      let ls = L.learnt_size in
      let low : tally b ≤ 1 = tally_low (eqb b 1) in
      let bw = L.below in
      record {
        cells = ap (λ c. c + 1) q;
        table_size = length-set p.table p.cells w ∙ ts;
        learnt_size = length-set p.learnt p.cells b ∙ ls;
        cells_are = row_next cell_in p.table (λ j. placed (number_at rep new) (table_in words (get_or old j 0))) i p.cells w q (omega arith) ew L.cells_are;
        marks_are = row_next (λ b. b) p.learnt (λ j. get_or bare (get_or old j 0) 0) i p.cells b q (omega arith) eb L.marks_are;
        counts = sym (
            marked_more (set p.learnt p.cells b) i ∙
            (ap (λ l. length l + tally (get_or (set p.learnt p.cells b) i 0)) (marked_set p.learnt p.cells b i (omega arith)) ∙
            (ap (λ c. length (marked p.learnt i) + tally c) (ap (λ a. get_or (set p.learnt a b) i 0) q ∙ get_or-set_same p.learnt i b 0 (omega arith)) ∙
            ap (λ c. c + tally b) (sym L.counts))));
        below = omega arith;
      }
    where
      tally_low : (t : Bool) → cond t 1 0 ≤ 1
      tally_low true = omega arith
      tally_low false = omega arith

  -- The plan p' with such a cell.
  pub laid_put : i < 128 → (k : Cell) (w : ℕ) (p' : Plan) → k ≡ placed (number_at rep new) (table_in words (get_or old i 0)) → cell_in (word_of k) ≡ k → w ≡ word_of k →
      p' ≡ put_row p w (get_or bare (get_or old i 0) 0) → Laid words rep old new bare (i + 1) p'
  laid_put lt k w p' ek es ew e =
      subst (Laid words rep old new bare (i + 1)) (sym e) (laid_next lt w (get_or bare (get_or old i 0) 0) (ap cell_in ew ∙ (es ∙ ek)) refl)

-- ---- the cells
module _ {A : Type 0} (f : ℕ → A) where
  pub length_up_to : (n : ℕ) → length (up_to f n) ≡ n
  unfolding up_to
  length_up_to zero = refl
  length_up_to (suc n) = (let h = length_up_to n in let g = length-append (up_to f n) (f n ∷ []) in omega arith)

  pub get_d_up_to : (n j : ℕ) (d : A) → j < n → get_or (up_to f n) j d ≡ f j
  unfolding up_to
  get_d_up_to zero j d h = absurd (omega arith)
  get_d_up_to (suc n) j d h = elim (ℕ_discrete j n) [
    | yes e ↦ ap (λ j. get_or (up_to f n ++ (f n ∷ [])) j d) e ∙ (get_or_at (up_to f n) (f n) [] d n (length_up_to n) ∙ ap f (sym e))
    | no ne ↦ (let l = length_up_to n in get_or-append (up_to f n) (f n ∷ []) d j (omega arith) ∙ get_d_up_to n j d (omega arith))
  ]

-- ---- the events
mem_left : (c : ℕ) (l k : List ℕ) → Memᴰ c l → Memᴰ c (l ++ k)
mem_left c [] k h = absurd (Memᴰ.not-nil h)
mem_left c (x ∷ l) k h = elim (Memᴰ.cases_cons h) [ inl e ↦ Memᴰ.head e | inr t ↦ Memᴰ.tail (mem_left c l k t) ]

mem_right : (c : ℕ) (l k : List ℕ) → Memᴰ c k → Memᴰ c (l ++ k)
mem_right c [] k h = h
mem_right c (x ∷ l) k h = Memᴰ.tail (mem_right c l k h)

mem_cases : (c : ℕ) (l k : List ℕ) → Memᴰ c (l ++ k) → Memᴰ c l ⊎ Memᴰ c k
mem_cases c [] k h = inr h
mem_cases c (x ∷ l) k h = elim (Memᴰ.cases_cons h) [
  | inl e ↦ inl (Memᴰ.head e)
  | inr t ↦ elim (mem_cases c l k t) [ inl a ↦ inl (Memᴰ.tail a) | inr b ↦ inr b ]
]

mem_one : (c n : ℕ) → Memᴰ c (n ∷ []) → c ≡ n
mem_one c n h = elim (Memᴰ.cases_cons h) [ inl e ↦ e | inr t ↦ absurd (Memᴰ.not-nil t) ]

mark_out : (c n v : ℕ) (t : Bool) → (t ≡ true → v ≡ 1) → Memᴰ c (cond t (n ∷ []) []) → (c ≡ n) × (v ≡ 1)
mark_out c n v true e h = (mem_one c n h, e refl)
mark_out c n v false e h = absurd (Memᴰ.not-nil h)

mark_in : (n : ℕ) (t : Bool) → t ≡ true → Memᴰ n (cond t (n ∷ []) [])
mark_in n t e = subst (λ t. Memᴰ n (cond t (n ∷ []) [])) (sym e) (Memᴰ.head refl)

pub marked_only : (l : List ℕ) (n c : ℕ) → Memᴰ c (marked l n) → (c < n) × On l c
unfolding marked
marked_only l zero c h = absurd (Memᴰ.not-nil h)
marked_only l (suc n) c h = elim (mem_cases c (marked l n) (cond (eqb (get_or l n 0) 1) (n ∷ []) []) h) [
  | inl a ↦ (let (lt, o) = marked_only l n c a in (omega arith, o))
  | inr b ↦ (let (e, o) = mark_out c n (get_or l n 0) (eqb (get_or l n 0) 1) (eqb-true (get_or l n 0) 1) b in (omega arith, subst (On l) (sym e) o))
]

pub marked_all : (l : List ℕ) (n c : ℕ) → c < n → On l c → Memᴰ c (marked l n)
unfolding marked
marked_all l zero c h o = absurd (omega arith)
marked_all l (suc n) c h o = elim (ℕ_discrete c n) [
  | yes e ↦ mem_right c (marked l n) (cond (eqb (get_or l n 0) 1) (n ∷ []) [])
      (subst (λ d. Memᴰ d (cond (eqb (get_or l n 0) 1) (n ∷ []) [])) (sym e) (mark_in n (eqb (get_or l n 0) 1) (eq-eqb (get_or l n 0) 1 (subst (On l) e o))))
  | no ne ↦ mem_left c (marked l n) (cond (eqb (get_or l n 0) 1) (n ∷ []) []) (marked_all l n c (omega arith) o)
]

rising_append : (l : List ℕ) (n : ℕ) → Rising l → ((c : ℕ) → Memᴰ c l → c < n) → Rising (l ++ (n ∷ []))
rising_append [] n r h = more (λ d m. absurd (Memᴰ.not-nil m)) none
rising_append (x ∷ l) n (more b r) h = more {c = x} {l = l ++ (n ∷ [])}
    (λ d m. elim (mem_cases d l (n ∷ []) m) [
      | inl a ↦ b d a
      | inr e ↦ (let q = mem_one d n e in let lt = h x (Memᴰ.head refl) in omega arith)
    ])
    (rising_append l n r (λ c m. h c (Memᴰ.tail m)))

rising_nil : (l : List ℕ) → Rising l → Rising (l ++ [])
rising_nil l r = subst Rising (sym (append-nil l)) r

rising_mark : (l : List ℕ) (n : ℕ) (t : Bool) → Rising l → ((c : ℕ) → Memᴰ c l → c < n) → Rising (l ++ cond t (n ∷ []) [])
rising_mark l n true r h = rising_append l n r h
rising_mark l n false r h = rising_nil l r

pub marked_rising : (l : List ℕ) (n : ℕ) → Rising (marked l n)
unfolding marked
marked_rising l zero = none
marked_rising l (suc n) = rising_mark (marked l n) n (eqb (get_or l n 0) 1) (marked_rising l n) (λ c m. (marked_only l n c m).0)

mark_few : (t : Bool) (n : ℕ) → length (cond t (n ∷ []) []) ≤ 1
mark_few true n = omega arith
mark_few false n = omega arith

pub marked_few : (l : List ℕ) (n : ℕ) → length (marked l n) ≤ n
unfolding marked
marked_few l zero = omega arith
marked_few l (suc n) =
    let h = marked_few l n in
    let g = mark_few (eqb (get_or l n 0) 1) n in
    let e = length-append (marked l n) (cond (eqb (get_or l n 0) 1) (n ∷ []) []) in
    omega arith

-- A mark below n is one more than those before it.
pub marked_mono : (l : List ℕ) (n i : ℕ) → i ≤ n → length (marked l i) ≤ length (marked l n)
unfolding marked
marked_mono l zero i h = (let z : i ≡ 0 = omega arith in subst (λ k. length (marked l k) ≤ 0) (sym z) (omega arith))
marked_mono l (suc n) i h = elim (ℕ_discrete i (suc n)) [
  | yes e ↦ (let z = ap (λ k. length (marked l k)) e in omega arith)
  | no ne ↦ (let g = marked_mono l n i (omega arith) in let e = length-append (marked l n) (cond (eqb (get_or l n 0) 1) (n ∷ []) []) in omega arith)
]

pub marked_up : (l : List ℕ) (n i : ℕ) → i < n → get_or l i 0 ≡ 1 → length (marked l i) + 1 ≤ length (marked l n)
marked_up l n i h e =
    let g = marked_mono l n (i + 1) (omega arith) in
    let m = marked_more l i in
    let t = tally_yes (get_or l i 0) e in
    omega arith
