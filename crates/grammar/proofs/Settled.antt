-- A line has one reading and its bytes one nesting each; the first byte at fault is one; so a text has one outcome, and two replies to it are equal.
use mathlib.Core.Path.{◌≡◌, refl, sym, ◌∙◌, ap, subst}
use mathlib.Core.Logic.{◌⊎◌, inl, inr}
use mathlib.Core.List.{List, [], ◌∷◌, ◌++◌, append_assoc, append-nil, append_cancel_left, head-eq_of_cons-eq, tail-eq_of_cons-eq}
use Prim.Native.Nat.{ℕ, zero, suc, ◌+◌, ◌-◌, ◌≤◌, ◌<◌}
use native.Mathlib.Omega.{arith}
use native.Mathlib.Decide.{dec_lt}
use lib.ListN.{length, take, drop, length-append, take-append-drop}
use lib.Seq.{take-length, take-take, take-append_seam, take-append-add}
use borrow.Author.Tests.{eqb-false}
use Rattle.model.proofs.Read.{clash}
use Rattle.model.proofs.Listed.{true_false}
use Rattle.grammar.specs.Typed.{Entry}
use Rattle.grammar.specs.Grammar.{Messages, Line, learn, make, Text, bytes_of, nested, list_text, word_of, line_text, line_bytes, line_says, Shallow, Stands, Begun, Fault, early, wrong, deep}
use Rattle.grammar.specs.Filed.{TooMany, is_loose}
use Rattle.grammar.specs.Text.{Outcome, Front, Told, finished, faulty, many, loose, line, Replied, refusal, short, written, TextReply}
use Rattle.grammar.proofs.Apart.{Apart, here, later, apart_behind, apart_bytes, list_ends, feed, list_apart, SameList}
use Rattle.grammar.proofs.Phrases.{bytes_append, bytes_nested, length_bytes, shallow_front, shallow_behind}

-- ---- lines

abbrev SameLine : Line → Line → Type 0
SameLine l l' = (line_text l ≡ line_text l') × (line_says l ≡ line_says l')

feed_text : (w : List ℕ) (l : Messages) (X : Text) → nested 0 w ++ (list_text l 0 ++ ((10, 0) ∷ [])) ++ X ≡ nested 0 w ++ (list_text l 0 ++ ((10, 0) ∷ X))
feed_text w l X = append_assoc (nested 0 w) (list_text l 0 ++ ((10, 0) ∷ [])) X ∙ ap (λ t. nested 0 w ++ t) (append_assoc (list_text l 0) ((10, 0) ∷ []) X)

lists_apart : (l l' : Messages) (X Y : Text) → SameList l l' 0 ⊎ Apart (list_text l 0 ++ ((10, 0) ∷ X)) (list_text l' 0 ++ ((10, 0) ∷ Y))
lists_apart l l' X Y = list_apart l l' 0 (10, 0) (10, 0) X Y (list_ends l 10 feed (eqb-false 10 44 refl)) (list_ends l' 10 feed (eqb-false 10 44 refl))

-- Two lines are the same, or part ways at a byte up to which their bytes and nestings are the same.
pub line_apart : (l l' : Line) (X Y : Text) → SameLine l l' ⊎ Apart (line_text l ++ X) (line_text l' ++ Y)
line_apart (learn l) (learn l') X Y = elim (lists_apart l l' X Y) [
  | inl (t, u) ↦ inl (cc, cc)
  | inr a ↦ inr (rw (feed_text (word_of (learn l)) l X, feed_text (word_of (learn l)) l' Y) (apart_behind (nested 0 (word_of (learn l))) a))
]
line_apart (learn l) (make l') X Y = inr (here (eqb-false 108 109 refl))
line_apart (make l) (learn l') X Y = inr (here (eqb-false 109 108 refl))
line_apart (make l) (make l') X Y = elim (lists_apart l l' X Y) [
  | inl (t, u) ↦ inl (cc, cc)
  | inr a ↦ inr (rw (feed_text (word_of (make l)) l X, feed_text (word_of (make l)) l' Y) (apart_behind (nested 0 (word_of (make l))) a))
]

marked : (w : Text) (x : List ℕ) → bytes_of (w ++ nested 0 x) ≡ bytes_of w ++ x
marked w x = bytes_append w (nested 0 x) ∙ ap (λ l. bytes_of w ++ l) (bytes_nested 0 x)

-- A line at the front of a text is one: its reading, its nestings, and what is behind it.
pub one_line : (l l' : Line) (x y : List ℕ) → line_bytes l ++ x ≡ line_bytes l' ++ y → (line_says l ≡ line_says l') × (line_text l ≡ line_text l') × (x ≡ y)
one_line l l' x y e = elim (line_apart l l' (nested 0 x) (nested 0 y)) [
  | inl (t, u) ↦ (u, t, append_cancel_left (line_bytes l) x y (e ∙ ap (λ w. bytes_of w ++ y) (sym t)))
  | inr a ↦ absurd (apart_bytes a (marked (line_text l) x ∙ (e ∙ sym (marked (line_text l') y))))
]

-- ---- nestings

apart_front : (w v : Text) {A B : Text} (P Q : Text) → Apart A B → A ≡ w ++ P → B ≡ v ++ Q → bytes_of w ≡ bytes_of v → w ≡ v
apart_front [] [] P Q a e f g = refl
apart_front [] (y ∷ v) P Q a e f g = clash (cc)
apart_front (x ∷ w) [] P Q a e f g = clash (cc)
apart_front (x ∷ w) (y ∷ v) P Q (here {x = a} {y = b} n) e f g =
    let i : a ≡ x = head-eq_of_cons-eq e in
    let j : b ≡ y = head-eq_of_cons-eq f in
    let k : x.0 ≡ y.0 = head-eq_of_cons-eq g in
    absurd (n (ap (λ (z : ℕ × ℕ). z.0) i ∙ (k ∙ sym (ap (λ (z : ℕ × ℕ). z.0) j))))
apart_front (x ∷ w) (y ∷ v) P Q (later {x = a} p) e f g =
    let i : x ≡ y = sym (head-eq_of_cons-eq e) ∙ head-eq_of_cons-eq f in
    let r : w ≡ v = apart_front w v P Q p (tail-eq_of_cons-eq e) (tail-eq_of_cons-eq f) (tail-eq_of_cons-eq g) in
    cc

same_front : (w v P Q : Text) → w ++ P ≡ v ++ Q → bytes_of w ≡ bytes_of v → w ≡ v
same_front [] [] P Q e g = refl
same_front [] (y ∷ v) P Q e g = clash (cc)
same_front (x ∷ w) [] P Q e g = clash (cc)
same_front (x ∷ w) (y ∷ v) P Q e g =
    let i : x ≡ y = head-eq_of_cons-eq e in
    let r : w ≡ v = same_front w v P Q (tail-eq_of_cons-eq e) (tail-eq_of_cons-eq g) in
    cc

-- The bytes at the front of a line tell their nestings.
pub one_nesting : (l l' : Line) (w v P Q : Text) → line_text l ≡ w ++ P → line_text l' ≡ v ++ Q → bytes_of w ≡ bytes_of v → w ≡ v
one_nesting l l' w v P Q e f g = elim (line_apart l l' [] []) [
  | inl (t, u) ↦ same_front w v P Q (sym e ∙ (t ∙ f)) g
  | inr a ↦ apart_front w v P Q a (append-nil (line_text l) ∙ e) (append-nil (line_text l') ∙ f) g
]

-- ---- the first byte at fault

-- A line begins with the first i bytes of the text, none of them nested deeper than 16.
abbrev Clear : List ℕ → ℕ → Type 0
Clear text i = (l : Line) × (w : Text) × (rest : Text) × (line_text l ≡ w ++ rest) × (bytes_of w ≡ take i text) × Shallow w

-- A line begins with the first i + 1 bytes of the text, and the last of them is nested deeper than 16.
abbrev Sunk : List ℕ → ℕ → Type 0
Sunk text i = (l : Line) × (w : Text) × (b : ℕ) × (n : ℕ) × (rest : Text) × (line_text l ≡ w ++ ((b, n) ∷ []) ++ rest) × (bytes_of (w ++ ((b, n) ∷ [])) ≡ take (suc i) text) × (16 < n)

-- Why byte i is the first at fault.
data Stop (text : List ℕ) : ℕ → ℕ → Type 0 where
  over : {i : ℕ} → i ≡ length text → Stop text 11 i
  none : {i : ℕ} → i < length text → (Stands (take (suc i) text) → ⊥) → Stop text 11 i
  sunk : {i : ℕ} → i < length text → Sunk text i → Stop text 12 i

take_one_more : (front : List ℕ) (b : ℕ) (behind : List ℕ) → take (suc (length front)) (front ++ (b ∷ behind)) ≡ front ++ (b ∷ [])
take_one_more [] b behind = refl
take_one_more (x ∷ front) b behind = ap (λ l. x ∷ l) (take_one_more front b behind)

-- A fault stops, and a line begins with what is before it and goes on.
record Faulty (text : List ℕ) (n i : ℕ) : Type 0 where
  within : i ≤ length text
  before : Begun (take i text)
  stop : Stop text n i

fault_stop : (text : List ℕ) (n i : ℕ) → Fault text n i → Faulty text n i
fault_stop text n i (early b) = record { within = omega arith; before = subst Begun (sym (take-length text)) b; stop = over refl }
fault_stop text n i (wrong front b behind e (l, w, next, rest, t, z, h) bad) =
    let k = length-append front (b ∷ behind) in
    let m = ap (λ (x : List ℕ). length x) e in
    record {
      within = omega arith;
      before = (l, w, next, rest, t, z ∙ (sym (take-append_seam front (b ∷ behind)) ∙ ap (take (length front)) (sym e)), h);
      stop = none {i = length front} (omega arith) (λ st. bad (subst Stands (ap (take (suc (length front))) e ∙ take_one_more front b behind) st));
    }
fault_stop text n i (deep l w b m rest behind t h k e) =
    let p = length-append (bytes_of w) (b ∷ behind) in
    let q = ap (λ (x : List ℕ). length x) e in
    let r = length_bytes w in
    let at : take (length w) text ≡ bytes_of w = ap (λ x. take x text) (sym r) ∙ (ap (take (length (bytes_of w))) e ∙ take-append_seam (bytes_of w) (b ∷ behind)) in
    let on : take (suc (length w)) text ≡ bytes_of w ++ (b ∷ []) = ap (λ x. take (suc x) text) (sym r) ∙ (ap (take (suc (length (bytes_of w)))) e ∙ take_one_more (bytes_of w) b behind) in
    record {
      within = omega arith;
      before = (l, w, (b, m), rest, t, sym at, h);
      stop = sunk {i = length w} (omega arith) (l, w, b, m, rest, t ∙ sym (append_assoc w ((b, m) ∷ []) rest), bytes_append w ((b, m) ∷ []) ∙ sym on, k);
    }

bytes_take : (k : ℕ) (w : Text) → bytes_of (take k w) ≡ take k (bytes_of w)
bytes_take zero w = refl
bytes_take (suc k) [] = refl
bytes_take (suc k) (b ∷ w) = ap (λ l. b.0 ∷ l) (bytes_take k w)

begun_clear : (text : List ℕ) (i : ℕ) → Begun (take i text) → Clear text i
begun_clear text i (l, w, next, rest, t, z, h) = (l, w, next ∷ rest, t, z, h)

-- Where a line begins with so many bytes, one begins with fewer.
clear_less : (text : List ℕ) (i j : ℕ) → i ≤ j → Clear text j → Clear text i
clear_less text i j h (l, w, rest, t, z, s) = (
  l,
  take i w,
  drop i w ++ rest,
  t ∙ (ap (λ v. v ++ rest) (sym (take-append-drop i w)) ∙ append_assoc (take i w) (drop i w) rest),
  bytes_take i w ∙ (ap (take i) z ∙ take-take i j text h),
  shallow_front (take i w) (drop i w) (subst Shallow (sym (take-append-drop i w)) s),
)

clear_stands : (text : List ℕ) (i : ℕ) → Clear text i → Stands (take i text)
clear_stands text i (l, w, rest, t, z, s) = (l, bytes_of rest, ap bytes_of t ∙ (bytes_append w rest ∙ ap (λ b. b ++ bytes_of rest) z))

clear_not_sunk : (text : List ℕ) (i : ℕ) → Clear text (suc i) → Sunk text i → ⊥
clear_not_sunk text i (l, w, rest, t, z, s) (l', v, b, n, rest', t', z', big) =
    let e : w ≡ v ++ ((b, n) ∷ []) = one_nesting l l' w (v ++ ((b, n) ∷ [])) rest rest' t t' (z ∙ sym z') in
    let (h, u) = shallow_behind v ((b, n) ∷ []) (subst Shallow e s) in
    omega arith

sunk_stands : (text : List ℕ) (i : ℕ) → Sunk text i → Stands (take (suc i) text)
sunk_stands text i (l, w, b, n, rest, t, z, big) =
    (l, bytes_of rest, ap bytes_of t ∙ (bytes_append (w ++ ((b, n) ∷ [])) rest ∙ ap (λ x. x ++ bytes_of rest) z))

-- Behind a fault no line within the bound begins.
stop_ends : (text : List ℕ) (n i j : ℕ) → Stop text n i → Clear text j → i < j → j ≤ length text → ⊥
stop_ends text n i j (over e) c h k = omega arith
stop_ends text n i j (none l bad) c h k = bad (clear_stands text (suc i) (clear_less text (suc i) j h c))
stop_ends text n i j (sunk l s) c h k = clear_not_sunk text i (clear_less text (suc i) j h c) s

stop_once : (text : List ℕ) (n m i : ℕ) → Stop text n i → Stop text m i → n ≡ m
stop_once text n m i (over e) (over f) = refl
stop_once text n m i (over e) (none l bad) = refl
stop_once text n m i (over e) (sunk l s) = absurd (omega arith)
stop_once text n m i (none l bad) (over f) = refl
stop_once text n m i (none l bad) (none k worse) = refl
stop_once text n m i (none l bad) (sunk k s) = absurd (bad (sunk_stands text i s))
stop_once text n m i (sunk l s) (over f) = absurd (omega arith)
stop_once text n m i (sunk l s) (none k bad) = absurd (bad (sunk_stands text i s))
stop_once text n m i (sunk l s) (sunk k t) = refl

-- The first byte at fault is one, with one number.
pub one_fault : (text : List ℕ) (n m i j : ℕ) → Fault text n i → Fault text m j → (n ≡ m) × (i ≡ j)
one_fault text n m i j f g = go (fault_stop text n i f) (fault_stop text m j g)
  where
    go : Faulty text n i → Faulty text m j → (n ≡ m) × (i ≡ j)
    go a b = elim (dec_lt i j) [
      | yes h ↦ absurd (stop_ends text n i j a.stop (begun_clear text j b.before) h b.within)
      | no h ↦ elim (dec_lt j i) [
        | yes k ↦ absurd (stop_ends text m j i b.stop (begun_clear text i a.before) k a.within)
        | no k ↦ (let e : i ≡ j = omega arith in (stop_once text n m i a.stop (subst (Stop text m) (sym e) b.stop), e))
      ]
    ]

-- A text with a line within the bound at its front has no fault there.
pub front_no_fault : (text : List ℕ) (l : Line) (rest : List ℕ) (n i : ℕ) → Front text l rest → Fault text n i → ⊥
front_no_fault text l rest n i f g = go (fault_stop text n i g)
  where
    size : length text ≡ length (line_text l) + length rest
    size = ap (λ (x : List ℕ). length x) f.bytes ∙ (length-append (line_bytes l) rest ∙ ap (λ x. x + length rest) (length_bytes (line_text l)))

    clear : Clear text (length (line_text l))
    clear = (
      l,
      line_text l,
      [],
      sym (append-nil (line_text l)),
      sym (ap (λ x. take x text) (sym (length_bytes (line_text l))) ∙ (ap (take (length (line_bytes l))) f.bytes ∙ take-append_seam (line_bytes l) rest)),
      f.shallow,
    )

    -- A line that begins with this one and goes on would be another.
    longer : Begun (take i text) → length (line_text l) ≤ i → ⊥
    longer (k, w, next, more, t, z, h) low =
        let len = length_bytes (line_text l) in
        let more-than = i - length (line_bytes l) in
        let n : i ≡ length (line_bytes l) + more-than = omega arith in
        let x = take more-than rest in
        let front : take i text ≡ line_bytes l ++ x = ap (λ j. take j text) n ∙ (ap (take (length (line_bytes l) + more-than)) f.bytes ∙ take-append-add (line_bytes l) rest more-than) in
        let whole : line_bytes k ++ [] ≡ line_bytes l ++ (x ++ (next.0 ∷ bytes_of more)) =
        append-nil (line_bytes k) ∙ (ap bytes_of t ∙ (bytes_append w (next ∷ more) ∙ (ap (λ b. b ++ (next.0 ∷ bytes_of more)) (z ∙ front) ∙ append_assoc (line_bytes l) x (next.0 ∷ bytes_of more)))) in
        never x next.0 (bytes_of more) (one_line k l [] (x ++ (next.0 ∷ bytes_of more)) whole).2
      where
        never : (x : List ℕ) (b : ℕ) (m : List ℕ) → [] ≡ x ++ (b ∷ m) → ⊥
        never [] b m e = clash (cc)
        never (y ∷ x) b m e = clash (cc)

    go : Faulty text n i → ⊥
    go a = elim (dec_lt i (length (line_text l))) [
      | yes h ↦ stop_ends text n i (length (line_text l)) a.stop clear h (omega (arith, size))
      | no h ↦ longer a.before (omega arith)
    ]

-- ---- the outcome of a text

line_not_none : (l : Line) (rest : List ℕ) → Front [] l rest → ⊥
line_not_none (learn l) rest f = clash (cc f.bytes)
line_not_none (make l) rest f = clash (cc f.bytes)

-- The lines at the front of one text are the same.
front_once : (text : List ℕ) (l l' : Line) (rest rest' : List ℕ) → Front text l rest → Front text l' rest' → (line_says l ≡ line_says l') × (line_text l ≡ line_text l') × (rest ≡ rest')
front_once text l l' rest rest' f g = one_line l l' rest rest' (sym f.bytes ∙ g.bytes)

pub one_outcome : {es : List Entry} {at : ℕ} {text : List ℕ} {o o' : Outcome} → Told es at text o → Told es at text o' → o ≡ o'
one_outcome finished finished = refl
one_outcome finished (many l rest f m) = absurd (line_not_none l rest f)
one_outcome finished (loose l rest f few b) = absurd (line_not_none l rest f)
one_outcome finished (line l rest f few b t) = absurd (line_not_none l rest f)
one_outcome {at = at} (faulty {b = b} {text = text} n i f) (faulty m j g) = let (e, k) = one_fault (b ∷ text) n m i j f g in cc
one_outcome (faulty {b = b} {text = text} n i f) (many l rest g m) = absurd (front_no_fault (b ∷ text) l rest n i g f)
one_outcome (faulty {b = b} {text = text} n i f) (loose l rest g few x) = absurd (front_no_fault (b ∷ text) l rest n i g f)
one_outcome (faulty {b = b} {text = text} n i f) (line l rest g few x t) = absurd (front_no_fault (b ∷ text) l rest n i g f)
one_outcome (many l rest f m) finished = absurd (line_not_none l rest f)
one_outcome (many l rest g m) (faulty {b = b} {text = text} n i f) = absurd (front_no_fault (b ∷ text) l rest n i g f)
one_outcome (many l rest g m) (many l' rest' g' m') = refl
one_outcome {es = es} {text = text} (many l rest g m) (loose l' rest' g' few x) = absurd (few (subst (λ e. TooMany (es ++ (e ∷ []))) (front_once text l l' rest rest' g g').0 m))
one_outcome {es = es} {text = text} (many l rest g m) (line l' rest' g' few x t) = absurd (few (subst (λ e. TooMany (es ++ (e ∷ []))) (front_once text l l' rest rest' g g').0 m))
one_outcome (loose l rest f few x) finished = absurd (line_not_none l rest f)
one_outcome (loose l rest g few x) (faulty {b = b} {text = text} n i f) = absurd (front_no_fault (b ∷ text) l rest n i g f)
one_outcome {es = es} {text = text} (loose l rest g few x) (many l' rest' g' m) = absurd (few (subst (λ e. TooMany (es ++ (e ∷ []))) (sym (front_once text l l' rest rest' g g').0) m))
one_outcome (loose l rest g few x) (loose l' rest' g' few' x') = refl
one_outcome {es = es} {text = text} (loose l rest g few x) (line l' rest' g' few' x' t) =
    true_false x (ap (is_loose es) (front_once text l l' rest rest' g g').0 ∙ x')
one_outcome (line l rest f few x t) finished = absurd (line_not_none l rest f)
one_outcome (line l rest g few x t) (faulty {b = b} {text = text} n i f) = absurd (front_no_fault (b ∷ text) l rest n i g f)
one_outcome {es = es} {text = text} (line l rest g few x t) (many l' rest' g' m) = absurd (few (subst (λ e. TooMany (es ++ (e ∷ []))) (sym (front_once text l l' rest rest' g g').0) m))
one_outcome {es = es} {text = text} (line l rest g few x t) (loose l' rest' g' few' x') =
    true_false x' (ap (is_loose es) (sym (front_once text l l' rest rest' g g').0) ∙ x)
one_outcome {es = es} {at = at} {text = text} {o' = o'} (line l rest g few x t) (line l' rest' g' few' x' t') =
    let (e, u, r) = front_once text l l' rest rest' g g' in
    one_outcome t (rw (e, ap (λ w. at + length (bytes_of w)) u, r) t')

-- ---- the reply

module _ {R : Type 0} (Refused : ℕ → ℕ → R) (Written : ℕ → R) where
  replied_once : (before : List ℕ) {o : Outcome} {r r' : R} {after after' : List ℕ} → Replied Refused Written before o r after → Replied Refused Written before o r' after' →
      (r ≡ r') × (after ≡ after')
  replied_once before (refusal n p) (refusal m q) = (refl, refl)
  replied_once before (short es h) (short fs k) = (refl, refl)
  replied_once before (short es h) (written fs k) = absurd (omega arith)
  replied_once before (written es h) (short fs k) = absurd (omega arith)
  replied_once before (written es h) (written fs k) = (refl, refl)

  -- Two replies to a text that keep the promise are equal, and so are the buffers.
  pub text_settled : (text before : List ℕ) (r r' : R) (after after' : List ℕ) → TextReply Refused Written text before r after → TextReply Refused Written text before r' after' →
      (r ≡ r') × (after ≡ after')
  text_settled text before r r' after after' p q =
      replied_once before p.replied (subst (λ o. Replied Refused Written before o r' after') (sym (one_outcome p.told q.told)) q.replied)
