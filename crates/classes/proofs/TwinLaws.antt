-- The lowest cells that are alike, cell by cell upwards, are the first class array.
use mathlib.Core.Path.{◌≡◌, refl, sym, ◌∙◌, ap, subst}
use mathlib.Core.Logic.{◌↔◌, inl, inr}
use mathlib.Core.List.{List}
use Prim.Native.Nat.{ℕ, ◌+◌, ◌≤◌, ◌<◌}
use native.Mathlib.Omega.{arith}
use native.Mathlib.Decide.{dec_lt}
use lib.ListN.{length, get_or, set}
use lib.Seq.{get_or-set_same}
use borrow.Author.Count.{below_more}
use Rattle.model.specs.Message.{Message, atom}
use Rattle.model.specs.Case.{Cell, AT, VA, ONE, TWO, Table, Reads, Lower, Ground}
use Rattle.model.proofs.Finite.{eq?}
use Rattle.model.proofs.Read.{var?, clash, look_solid}
use Rattle.theory.specs.Cells.{class_at}
use Rattle.theory.specs.Classes.{Alike, atoms, ones, twos, Closed, Reps}
use Rattle.theory.proofs.Classes.{alike_parts, alike_sym, alike_solid, list_classes}
use Rattle.theory.proofs.Twins.{twins}
use Rattle.classes.specs.Twins.{First, Twin, Start}
use Rattle.classes.proofs.RowLaws.{class_low, class_high, class_below}

pub alike_trans : {A : Type 0} {f : ℕ → A} {k k' k'' : Cell} → Alike f k k' → Alike f k' k'' → Alike f k k''
alike_trans atoms atoms = atoms
alike_trans (ones e) (ones i) = ones (e ∙ i)
alike_trans (twos e e') (twos i i') = twos (e ∙ i) (e' ∙ i')

pub alike_self : {A : Type 0} {f : ℕ → A} (k : Cell) → (k ≡ VA → ⊥) → Alike f k k
alike_self (AT n) s = atoms
alike_self VA s = absurd (s refl)
alike_self (ONE g a) s = ones refl
alike_self (TWO h l r) s = twos refl refl

module _ (T : Table) (low : Lower T) where
  -- The parts of cells up to c lie below c, so other classes that are the same there say the same.
  alike_below : (f g : ℕ → ℕ) (c d e : ℕ) → ((i : ℕ) → i < c → f i ≡ g i) → d ≤ c → e ≤ c → Alike f (T d) (T e) → Alike g (T d) (T e)
  alike_below f g c d e same hd he h =
      alike_parts (λ i j p q z. let a = low d i p in let b = low e j q in sym (same i (omega arith)) ∙ z ∙ same j (omega arith)) h

  first_below : (f g : ℕ → ℕ) (c : ℕ) → ((i : ℕ) → i < c → f i ≡ g i) → f c ≡ g c → First T f c → First T g c
  first_below f g c same here w =
      record {
        low = omega (arith, w.low);
        alone = λ v. sym here ∙ w.alone v;
        same = λ s. subst (λ d. Alike g (T c) (T d)) here (alike_below f g c c (f c) same (omega arith) w.low (w.same s));
        least = λ d h t. w.least d (omega arith) (alike_below g f c c d (λ i l. sym (same i l)) (omega arith) (omega (arith, w.low)) t);
      }

  twin_first : (f g : ℕ → ℕ) (c r : ℕ) → ((i : ℕ) → i < c → f i ≡ g i) → g c ≡ r → Twin T f c r → First T g c
  twin_first f g c r same e w =
      record {
        low = omega (arith, w.low);
        alone = λ v. elim (eq? r c) [
          | inl i ↦ e ∙ i
          | inr ne ↦ absurd (alike_solid (alike_sym (w.hit (omega (arith, w.low)))) v)
        ];
        same = λ s. subst (λ d. Alike g (T c) (T d)) (sym e) (elim (eq? r c) [
          | inl i ↦ subst (λ d. Alike g (T c) (T d)) (sym i) (alike_self (T c) s)
          | inr ne ↦ alike_below f g c c r same (omega arith) w.low (w.hit (omega (arith, w.low)))
        ]);
        least = λ d h t. w.miss d (omega arith) (alike_below g f c c d (λ i l. sym (same i l)) (omega arith) (omega (arith, w.low)) t);
      }

  -- A cell above n that is as n has the lowest twin of n.
  pub twin_as : (f : ℕ → ℕ) (n c : ℕ) → n < c → T c ≡ T n → (T n ≡ VA → ⊥) → First T f n → Twin T f c (f n)
  twin_as f n c h e s w = record {
    low = omega (arith, w.low);
    hit = λ _. subst (λ k. Alike f k (T (f n))) (sym e) (w.same s);
    miss = λ d l t. w.least d l (subst (λ k. Alike f k (T d)) e t);
  }

  -- The entries below c are as they should be: c gets its lowest twin.
  pub firsts_more : (rep : List ℕ) (c r : ℕ) → length rep ≡ 129 → c ≤ 128 → ((i : ℕ) → i < c → First T (class_at rep) i) → Twin T (class_at rep) c r →
      (i : ℕ) → i < c + 1 → First T (class_at (set rep c r)) i
  firsts_more rep c r long h firsts w =
      below_more (First T (class_at (set rep c r))) c
      (λ i l. first_below (class_at rep) (class_at (set rep c r)) i (λ j g. class_below rep c r h j (omega arith)) (class_below rep c r h i l) (firsts i l))
      (twin_first (class_at rep) (class_at (set rep c r)) c r (class_below rep c r h) (sym (class_low (set rep c r) c h) ∙ get_or-set_same rep c r 0 (omega arith)) w)

  -- The cells beyond are as cell 128.
  pub firsts_all : (rep : List ℕ) → ((c : ℕ) → 128 ≤ c → T c ≡ AT 0) → ((i : ℕ) → i < 129 → First T (class_at rep) i) → (c : ℕ) → First T (class_at rep) c
  firsts_all rep beyond firsts c = elim (dec_lt c 129) [
    | yes h ↦ firsts c h
    | no h ↦ far (omega arith) (beyond c (omega arith)) (beyond 128 (omega arith)) (sym (class_high rep c (omega arith))) (firsts 128 (omega arith))
  ]
    where
      far : 128 ≤ c → T c ≡ AT 0 → T 128 ≡ AT 0 → class_at rep c ≡ get_or rep 128 0 → First T (class_at rep) 128 → First T (class_at rep) c
      far h here there ec w =
          let et : T c ≡ T 128 = here ∙ sym there in
          record {
            low = omega (arith, w.low);
            alone = λ v. clash (cc);
            same = λ s. rw (et, ec) (w.same (λ v. s (et ∙ v)));
            least = λ d l t. w.least d (omega arith) (rw et at t);
          }

-- Such an array is the first class array.
module _ (n : ℕ) (T : Table) (low : Lower T) (rep : List ℕ) (long : length rep ≡ 129) (firsts : (c : ℕ) → First T (class_at rep) c) where
  abbrev cls : ℕ → ℕ
  cls = class_at rep

  up : (c d : ℕ) → Alike cls (T c) (T d) → cls c ≡ cls d
  up c d h =
      let sc : T c ≡ VA → ⊥ = alike_solid (alike_sym h) in
      let sd : T d ≡ VA → ⊥ = alike_solid h in
      elim (dec_lt (cls c) (cls d)) [
        | yes l ↦ absurd ((firsts d).least (cls c) l (alike_trans (alike_sym h) ((firsts c).same sc)))
        | no a ↦ elim (dec_lt (cls d) (cls c)) [
          | yes l ↦ absurd ((firsts c).least (cls d) l (alike_trans h ((firsts d).same sd)))
          | no b ↦ omega arith
        ]
      ]

  closed : Closed T cls
  closed c s = (firsts c).same s

  reps : Reps T cls
  reps =
      record {
        idem = λ c. elim (var? (T c)) [ inl v ↦ ap cls ((firsts c).alone v) | inr s ↦ sym (up c (cls c) (closed c s)) ];
        solid = λ c s. alike_solid (closed c s);
        lowest = λ c s. (firsts c).low;
      }

  pub firsts_start : Start n T rep
  firsts_start =
      record {
        solved = record {
          kept = record {
            long = long;
            reps = reps;
            names = λ c d k e i. up c d (rw (e, i) atoms);
            inside = λ c h. omega (arith, (firsts c).low);
          };
          closed = closed;
          finite = (cls, λ c d p. omega (arith, low (cls c) d p, (firsts d).low));
        };
        met = λ m mr. list_classes T cls m low closed (λ c s. (firsts c).low) mr (λ v e. ap m (sym ((firsts v).alone e)));
        up = up;
        alone = λ c v. (firsts c).alone v;
      }

-- ---- a table without variables

pub ground_reads : (T : Table) (m : ℕ → Message) → ((c : ℕ) → T c ≡ VA → ⊥) → Ground T m → Reads T m m
ground_reads T m solid ground c = ground c ∙ look_solid (atom 0) (m c) m (T c) (solid c)

-- Cells show one message exactly if they are of one class.
pub start_twins : (n : ℕ) (T : Table) (rep : List ℕ) → Start n T rep → ((c : ℕ) → T c ≡ VA → ⊥) → (m : ℕ → Message) → Ground T m →
    (c d : ℕ) → (m c ≡ m d) ↔ (class_at rep c ≡ class_at rep d)
start_twins n T rep w solid m ground c d = (
  λ e. twins T m ground (λ c. Unit) (λ c d h p. tt) (λ c h. solid c) (class_at rep) (λ c d h h' a. w.up c d a) c d tt tt e,
  λ e. (let s = w.met m (ground_reads T m solid ground) in cc (s c, s d)),
)
