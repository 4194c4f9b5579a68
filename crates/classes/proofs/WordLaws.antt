-- Class words are equal exactly if the cells are alike by the classes of their parts; so the earliest cell that has the word of c is the lowest that is alike c.
use mathlib.Core.Path.{◌≡◌, refl, sym, ◌∙◌, ap, subst}
use mathlib.Core.Logic.{inl, inr}
use mathlib.Core.List.{List}
use Prim.Native.Nat.{ℕ, zero, suc, ◌+◌, ◌/◌, ◌%◌, ◌≤◌, ◌<◌}
use native.Mathlib.Decide.{dec_lt}
use native.Mathlib.Omega.{arith}
use lib.ListN.{get_or, set, length-set}
use lib.Seq.{get_or-set_same, get_or-set_other}
use Rattle.model.specs.Message.{App}
use Rattle.model.specs.Case as case
use Rattle.model.specs.Case.{AT, VA, ONE, TWO, Table, Part, in_arg, in_left, in_right, Lower}
use Rattle.model.specs.Stored.{cell_at, cell_in, table_in}
use Rattle.model.proofs.Finite.{eq?}
use Rattle.model.proofs.Read.{var?}
use Rattle.model.proofs.Rows.{Fits, word_cell, cell_word, table_at, table_past}
use Rattle.theory.specs.Classes.{Likes, Alike, atoms, ones, twos}
use Rattle.theory.proofs.Classes.{alike_sym, alike_solid}
use Rattle.classes.specs.Twins.{class_word, Worded, Earliest, First, Twin}

-- ---- the bytes of a table's cells are bytes

kind_fits : (k a b : ℕ) → a < 256 → b < 256 → Fits (cell_at k a b)
kind_fits zero a b ha hb = (omega arith, omega arith)
kind_fits (suc zero) a b ha hb = (omega arith, omega arith)
kind_fits (suc (suc zero)) a b ha hb = (ha, hb)
kind_fits (suc (suc (suc zero))) a b ha hb = (ha, hb)
kind_fits (suc (suc (suc (suc zero)))) a b ha hb = (ha, hb)
kind_fits (suc (suc (suc (suc (suc k))))) a b ha hb = (omega arith, omega arith)

word_fits : (w : ℕ) → Fits (cell_in w)
word_fits w = kind_fits (w / 65536 % 256) (w / 256 % 256) (w % 256) (omega arith) (omega arith)

table_fits : (table : List ℕ) (c : ℕ) → Fits (table_in table c)
table_fits table c = elim (dec_lt c 128) [
  | yes h ↦ subst Fits (sym (table_at table c h)) (word_fits (get_or table c 0))
  | no h ↦ subst Fits (sym (table_past table c (omega arith))) (omega arith, omega arith)
]

-- ---- equal words

-- Cells that f and g make like one cell are alike by f.
likes_both : {f g : ℕ → ℕ} {k l m : case.Cell} → Likes f g k m → Likes f g l m → Alike f k l
likes_both atoms atoms = atoms
likes_both (ones e) (ones i) = ones (e ∙ sym i)
likes_both (twos e e') (twos i i') = twos (e ∙ sym i) (e' ∙ sym i')

module _ (cls : ℕ → ℕ) where
  -- The cell with the classes of its parts for the parts.
  abbrev by_classes : case.Cell → case.Cell
  by_classes (AT n) = AT n
  by_classes VA = VA
  by_classes (ONE g a) = ONE g (cls a)
  by_classes (TWO h l r) = TWO h (cls l) (cls r)

  likes_classes : (k : case.Cell) → (k ≡ VA → ⊥) → Likes cls (λ d. d) k (by_classes k)
  likes_classes (AT n) s = atoms
  likes_classes VA s = absurd (s refl)
  likes_classes (ONE g a) s = ones refl
  likes_classes (TWO h l r) s = twos refl refl

  classes_alike : (k l : case.Cell) → by_classes k ≡ by_classes l → (k ≡ VA → ⊥) → Alike cls k l
  classes_alike k l e s = elim (var? l) [
    | inl v ↦ absurd (alike_solid (subst (Likes cls (λ d. d) k) e (likes_classes k s)) (ap by_classes v))
    | inr z ↦ likes_both (subst (Likes cls (λ d. d) k) e (likes_classes k s)) (likes_classes l z)
  ]

  classes_fit : (k : case.Cell) → Fits k → ((i : ℕ) → Part k i → cls i < 256) → Fits (by_classes k)
  classes_fit (AT n) f part = f
  classes_fit VA f part = f
  classes_fit (ONE (App g) a) f part = (f.0, part a in_arg)
  classes_fit (TWO h l r) f part = (part l in_left, part r in_right)

  -- A class word is a word of that cell.
  word_classes : (c : ℕ) (k : case.Cell) → c < 256 → Fits (by_classes k) → cell_in (class_word cls c k) ≡ by_classes k
  unfolding class_word
  word_classes c (AT n) h f = cell_word (AT n) f
  word_classes c VA h f = word_cell 1 0 c (omega arith) (omega arith) h
  word_classes c (ONE g a) h f = cell_word (ONE g (cls a)) f
  word_classes c (TWO t l r) h f = cell_word (TWO t (cls l) (cls r)) f

  own_word : (c : ℕ) {k : case.Cell} → k ≡ VA → class_word cls c k ≡ 65536 + c
  unfolding class_word
  own_word c e = rw e refl

  word_alike : (c d : ℕ) (k l : case.Cell) → c < 256 → d < 256 → Fits (by_classes k) → Fits (by_classes l) → (c ≡ d → ⊥) →
      class_word cls c k ≡ class_word cls d l → Alike cls k l
  word_alike c d k l hc hd fk fl ne e =
      let z : by_classes k ≡ by_classes l = sym (word_classes c k hc fk) ∙ ap cell_in e ∙ word_classes d l hd fl in
      elim (var? k) [
        | inl v ↦ elim (var? l) [
          | inl u ↦ absurd (ne (let x = own_word c v in let y = own_word d u in omega arith))
          | inr s ↦ alike_sym (classes_alike l k (sym z) s)
        ]
        | inr s ↦ classes_alike k l z s
      ]

  alike_word : (c d : ℕ) {k l : case.Cell} → Alike cls k l → class_word cls c k ≡ class_word cls d l
  unfolding class_word
  alike_word c d atoms = refl
  alike_word c d (ones e) = rw e
  alike_word c d (twos e i) = rw (e, i)

-- ---- the lowest cell that is alike

-- Where the classes below c are low and the words up to c are right, the earliest cell of one word is the lowest twin.
pub earliest_twin : (table : List ℕ) → Lower (table_in table) → (cls : ℕ → ℕ) (words : List ℕ) (c r : ℕ) → c ≤ 128 →
    ((i : ℕ) → i < c → First (table_in table) cls i) → ((d : ℕ) → d ≤ c → get_or words d 0 ≡ class_word cls d (table_in table d)) →
    Earliest words c r → Twin (table_in table) cls c r
earliest_twin table low cls words c r few firsts at w =
    record {
      low = w.low;
      hit = λ h. word_alike cls c r (T c) (T r) (omega arith) (omega arith) (fits c (omega arith)) (fits r w.low) (λ e. absurd (omega arith))
          (sym (at c (omega arith)) ∙ sym w.same ∙ at r w.low);
      miss = λ d h t. w.none d h (at d (omega (arith, w.low)) ∙ sym (alike_word cls c d t) ∙ sym (at c (omega arith)));
    }
  where
    T : Table
    T = table_in table

    fits : (d : ℕ) → d ≤ c → Fits (by_classes cls (T d))
    fits d h = classes_fit cls (T d) (table_fits table d) λ i p. let l = low d i p in omega (arith, (firsts i (omega arith)).low)

-- ---- the words below c

word_same : (f g : ℕ → ℕ) (c : ℕ) (k : case.Cell) → ((i : ℕ) → Part k i → f i ≡ g i) → class_word f c k ≡ class_word g c k
unfolding class_word
word_same f g c (AT n) same = refl
word_same f g c VA same = refl
word_same f g c (ONE t a) same = rw (same a in_arg)
word_same f g c (TWO t l r) same = rw (same l in_left, same r in_right)

module _ (n : ℕ) (T : Table) where
  -- Other classes that are the same below c say the same of the cells up to c.
  pub worded_same : (f g : ℕ → ℕ) (c : ℕ) {words : List ℕ} → Lower T → ((i : ℕ) → i < c → f i ≡ g i) → Worded n T f (c + 1) words → Worded n T g (c + 1) words
  worded_same f g c low same w =
      record { long = w.long; at = λ d h l. w.at d h l ∙ word_same f g d (T d) (λ i p. let x = low d i p in same i (omega arith)) }

  -- The cells beyond n have no word.
  pub worded_beyond : (cls : ℕ → ℕ) (c : ℕ) {words : List ℕ} → n < c → Worded n T cls c words → Worded n T cls (c + 1) words
  worded_beyond cls c h w = record { long = w.long; at = λ d i l. w.at d (omega arith) l }

  pub worded_more : (cls : ℕ → ℕ) (c v : ℕ) (words : List ℕ) → c ≤ 128 → v ≡ class_word cls c (T c) → Worded n T cls c words → Worded n T cls (c + 1) (set words c v)
  worded_more cls c v words few e w =
      record {
        long = length-set words c v ∙ w.long;
        at = λ d h l. elim (eq? d c) [
          | inl i ↦ rw i (get_or-set_same words c v 0 (omega (arith, w.long)) ∙ e)
          | inr ne ↦ get_or-set_other words c d v 0 ne ∙ w.at d (omega arith) l
        ];
      }
