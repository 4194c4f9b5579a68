-- Two phrases, each with a byte behind it that does not go on with it, are the same, or part ways at a byte up to which their bytes and nestings are the same.
-- So a line has one reading, and the bytes before and at a place tell its nesting.
use mathlib.Core.Path.{◌≡◌, refl, sym, ◌∙◌, ap}
use mathlib.Core.Logic.{◌⊎◌, inl, inr}
use mathlib.Core.List.{List, [], ◌∷◌, ◌++◌, append_assoc}
use Prim.Native.Nat.{ℕ, suc, ◌≤◌}
use native.Mathlib.Omega.{arith}
use native.Mathlib.Decide.{ℕ_discrete}
use borrow.Author.Tests.{eqb-false}
use Rattle.grammar.specs.Grammar.{decimal, Message, atom, variable, apply, seal, group, Messages, last, more, Text, bytes_of, nested, message_text, list_text, message_says, list_says}
use Rattle.grammar.specs.Reader.{NoDigit, MessageEnds, ListEnds}
use Rattle.grammar.proofs.Numbers.{Digit, Digits, decimal_digits, decimal_one_number}

-- The same bytes with the same nestings, then two different bytes.
pub data Apart : Text → Text → Type 0 where
  here : {x y : ℕ × ℕ} {X Y : Text} → (x.0 ≡ y.0 → ⊥) → Apart (x ∷ X) (y ∷ Y)
  later : {x : ℕ × ℕ} {X Y : Text} → Apart X Y → Apart (x ∷ X) (x ∷ Y)

pub apart_behind : (w : Text) {X Y : Text} → Apart X Y → Apart (w ++ X) (w ++ Y)
apart_behind [] a = a
apart_behind (b ∷ w) a = later (apart_behind w a)

pub apart_bytes : {X Y : Text} → Apart X Y → bytes_of X ≡ bytes_of Y → ⊥
apart_bytes (here n) e = n (cc)
apart_bytes (later a) e = apart_bytes a (cc)

-- ---- numbers

pub no_digit : {b c : ℕ} → NoDigit b → Digit c → b ≡ c → ⊥
no_digit (inl l) i e = omega arith
no_digit (inr l) i e = omega arith

digits_apart : (ds es : List ℕ) (d : ℕ) (x y : ℕ × ℕ) (X Y : Text) → Digits ds → Digits es → NoDigit x.0 → NoDigit y.0 →
    (ds ≡ es) ⊎ Apart (nested d ds ++ (x ∷ X)) (nested d es ++ (y ∷ Y))
digits_apart [] [] d x y X Y i j h k = inl refl
digits_apart [] (e ∷ es) d x y X Y i (j, js) h k = inr (here (λ z. no_digit h j z))
digits_apart (c ∷ ds) [] d x y X Y (i, is) j h k = inr (here (λ z. no_digit k i (sym z)))
digits_apart (c ∷ ds) (e ∷ es) d x y X Y (i, is) (j, js) h k = elim (ℕ_discrete c e) [
  | yes z ↦ elim (digits_apart ds es d x y X Y is js h k) [
    | inl q ↦ inl (cc)
    | inr a ↦ inr (rw z (later a))
  ]
  | no n ↦ inr (here n)
]

pub number_apart : (n m d : ℕ) (x y : ℕ × ℕ) (X Y : Text) → NoDigit x.0 → NoDigit y.0 → (n ≡ m) ⊎ Apart (nested d (decimal n) ++ (x ∷ X)) (nested d (decimal m) ++ (y ∷ Y))
number_apart n m d x y X Y h k = elim (digits_apart (decimal n) (decimal m) d x y X Y (decimal_digits n) (decimal_digits m) h k) [
  | inl e ↦ inl (decimal_one_number n m e)
  | inr a ↦ inr a
]

-- ---- messages and lists

-- A byte that is no digit ends every message; one that is no comma either, every list.
mutual
  pub message_ends : (m : Message) (c : ℕ) → NoDigit c → MessageEnds m c
  message_ends (atom n h) c i = i
  message_ends (variable n h) c i = i
  message_ends (apply f h l) c i = tt
  message_ends (seal l k) c i = message_ends k c i
  message_ends (group l) c i = tt

  pub list_ends : (l : Messages) (c : ℕ) → NoDigit c → (c ≡ 44 → ⊥) → ListEnds l c
  list_ends (last m) c i n = (message_ends m c i, n)
  list_ends (more m l) c i n = list_ends l c i n

-- The same text at the nesting d, and the same reading.
abbrev pub SameMessage : Message → Message → ℕ → Type 0
SameMessage m m' d = (message_text m d ≡ message_text m' d) × (message_says m ≡ message_says m')

abbrev pub SameList : Messages → Messages → ℕ → Type 0
SameList l l' d = (list_text l d ≡ list_text l' d) × (list_says l ≡ list_says l')

-- Texts, written out from the front.
pub apply_text : (f : ℕ) (h : f ≤ 255) (l : Messages) (d : ℕ) (X : Text) →
    message_text (apply f h l) d ++ X ≡ (102, d) ∷ (nested d (decimal f) ++ ((40, d) ∷ (list_text l (suc d) ++ ((41, d) ∷ X))))
unfolding message_text
apply_text f h l d X =
    ap (λ w. (102, d) ∷ w) (append_assoc (nested d (decimal f)) ((40, d) ∷ (list_text l (suc d) ++ ((41, d) ∷ []))) X)
    ∙ ap (λ w. (102, d) ∷ (nested d (decimal f) ++ ((40, d) ∷ w))) (append_assoc (list_text l (suc d)) ((41, d) ∷ []) X)

pub seal_text : (l : Messages) (k : Message) (d : ℕ) (X : Text) →
    message_text (seal l k) d ++ X ≡ (123, d) ∷ (124, d) ∷ (list_text l (suc d) ++ ((124, d) ∷ (125, d) ∷ (message_text k (suc d) ++ X)))
unfolding message_text
seal_text l k d X = ap (λ w. (123, d) ∷ (124, d) ∷ w) (append_assoc (list_text l (suc d)) ((124, d) ∷ (125, d) ∷ message_text k (suc d)) X)

pub group_text : (l : Messages) (d : ℕ) (X : Text) → message_text (group l) d ++ X ≡ (40, d) ∷ (list_text l (suc d) ++ ((41, d) ∷ X))
unfolding message_text
group_text l d X = ap (λ w. (40, d) ∷ w) (append_assoc (list_text l (suc d)) ((41, d) ∷ []) X)

pub more_text : (m : Message) (l : Messages) (d : ℕ) (X : Text) → list_text (more m l) d ++ X ≡ message_text m d ++ ((44, d) ∷ (list_text l d ++ X))
unfolding message_text
more_text m l d X = append_assoc (message_text m d) ((44, d) ∷ list_text l d) X

-- Marks are no digits.
pub opening : NoDigit 40
opening = inl (omega arith)

pub closing : NoDigit 41
closing = inl (omega arith)

pub comma : NoDigit 44
comma = inl (omega arith)

pub bar : NoDigit 124
bar = inr (omega arith)

pub feed : NoDigit 10
feed = inl (omega arith)

module _ (d : ℕ) (x y : ℕ × ℕ) (X Y : Text) where
  atom_apart : (n m : ℕ) (h : n ≤ 65535) (k : m ≤ 65535) → NoDigit x.0 → NoDigit y.0 →
      SameMessage (atom n h) (atom m k) d ⊎ Apart (message_text (atom n h) d ++ (x ∷ X)) (message_text (atom m k) d ++ (y ∷ Y))
  unfolding message_text message_says
  atom_apart n m h k i j = elim (number_apart n m d x y X Y i j) [ inl e ↦ inl (cc, cc) | inr a ↦ inr (later a) ]

  variable_apart : (n m : ℕ) (h : n ≤ 65535) (k : m ≤ 65535) → NoDigit x.0 → NoDigit y.0 →
      SameMessage (variable n h) (variable m k) d ⊎ Apart (message_text (variable n h) d ++ (x ∷ X)) (message_text (variable m k) d ++ (y ∷ Y))
  unfolding message_text message_says
  variable_apart n m h k i j = elim (number_apart n m d x y X Y i j) [ inl e ↦ inl (cc, cc) | inr a ↦ inr (later a) ]

  apply_apart : (f g : ℕ) (h : f ≤ 255) (k : g ≤ 255) (l l' : Messages) →
      SameList l l' (suc d) ⊎ Apart (list_text l (suc d) ++ ((41, d) ∷ (x ∷ X))) (list_text l' (suc d) ++ ((41, d) ∷ (y ∷ Y))) →
      SameMessage (apply f h l) (apply g k l') d ⊎ Apart (message_text (apply f h l) d ++ (x ∷ X)) (message_text (apply g k l') d ++ (y ∷ Y))
  unfolding message_text message_says
  apply_apart f g h k l l' lists = rw (apply_text f h l d (x ∷ X), apply_text g k l' d (y ∷ Y)) (elim functions [
    | inr a ↦ inr (later a)
    | inl e ↦ elim lists [
      | inl (t, u) ↦ inl (cc, cc)
      | inr a ↦ inr (rw e (later (apart_behind (nested d (decimal g)) (later a))))
    ]
  ])
    where
      functions : (f ≡ g) ⊎ Apart (nested d (decimal f) ++ ((40, d) ∷ (list_text l (suc d) ++ ((41, d) ∷ (x ∷ X))))) (nested d (decimal g) ++ ((40, d) ∷ (list_text l' (suc d) ++ ((41, d) ∷ (y ∷ Y)))))
      functions = number_apart f g d (40, d) (40, d) (list_text l (suc d) ++ ((41, d) ∷ (x ∷ X))) (list_text l' (suc d) ++ ((41, d) ∷ (y ∷ Y))) opening opening

  seal_apart : (l l' : Messages) (k k' : Message) →
      ((X' Y' : Text) → SameList l l' (suc d) ⊎ Apart (list_text l (suc d) ++ ((124, d) ∷ X')) (list_text l' (suc d) ++ ((124, d) ∷ Y'))) →
      SameMessage k k' (suc d) ⊎ Apart (message_text k (suc d) ++ (x ∷ X)) (message_text k' (suc d) ++ (y ∷ Y)) →
      SameMessage (seal l k) (seal l' k') d ⊎ Apart (message_text (seal l k) d ++ (x ∷ X)) (message_text (seal l' k') d ++ (y ∷ Y))
  unfolding message_text message_says
  seal_apart l l' k k' lists keys = rw (seal_text l k d (x ∷ X), seal_text l' k' d (y ∷ Y))
      (elim (lists ((125, d) ∷ (message_text k (suc d) ++ (x ∷ X))) ((125, d) ∷ (message_text k' (suc d) ++ (y ∷ Y)))) [
        | inr a ↦ inr (later (later a))
        | inl (t, u) ↦ elim keys [
          | inl (v, w) ↦ inl (cc, cc)
          | inr a ↦ inr (rw t (later (later (apart_behind (list_text l' (suc d)) (later (later a))))))
        ]
      ])

  group_apart : (l l' : Messages) → SameList l l' (suc d) ⊎ Apart (list_text l (suc d) ++ ((41, d) ∷ (x ∷ X))) (list_text l' (suc d) ++ ((41, d) ∷ (y ∷ Y))) →
      SameMessage (group l) (group l') d ⊎ Apart (message_text (group l) d ++ (x ∷ X)) (message_text (group l') d ++ (y ∷ Y))
  unfolding message_text message_says
  group_apart l l' lists = rw (group_text l d (x ∷ X), group_text l' d (y ∷ Y)) (elim lists [
    | inl (t, u) ↦ inl (cc, cc)
    | inr a ↦ inr (later a)
  ])

module _ (d : ℕ) (x y : ℕ × ℕ) (X Y : Text) where
  last_apart : (m m' : Message) → (x.0 ≡ 44 → ⊥) → (y.0 ≡ 44 → ⊥) →
      SameMessage m m' d ⊎ Apart (message_text m d ++ (x ∷ X)) (message_text m' d ++ (y ∷ Y)) →
      SameList (last m) (last m') d ⊎ Apart (list_text (last m) d ++ (x ∷ X)) (list_text (last m') d ++ (y ∷ Y))
  unfolding message_text message_says
  last_apart m m' i j r = r

  last_more : (m m' : Message) (l : Messages) → (x.0 ≡ 44 → ⊥) →
      SameMessage m m' d ⊎ Apart (message_text m d ++ (x ∷ X)) (message_text m' d ++ ((44, d) ∷ (list_text l d ++ (y ∷ Y)))) →
      Apart (list_text (last m) d ++ (x ∷ X)) (list_text (more m' l) d ++ (y ∷ Y))
  unfolding message_text
  last_more m m' l i r = rw (more_text m' l d (y ∷ Y)) (elim r [
    | inl (t, u) ↦ rw t (apart_behind (message_text m' d) (here i))
    | inr a ↦ a
  ])

  more_last : (m m' : Message) (l : Messages) → (y.0 ≡ 44 → ⊥) →
      SameMessage m m' d ⊎ Apart (message_text m d ++ ((44, d) ∷ (list_text l d ++ (x ∷ X)))) (message_text m' d ++ (y ∷ Y)) →
      Apart (list_text (more m l) d ++ (x ∷ X)) (list_text (last m') d ++ (y ∷ Y))
  unfolding message_text
  more_last m m' l i r = rw (more_text m l d (x ∷ X)) (elim r [
    | inl (t, u) ↦ rw t (apart_behind (message_text m' d) (here (λ e. i (sym e))))
    | inr a ↦ a
  ])

  more_apart : (m m' : Message) (l l' : Messages) →
      SameMessage m m' d ⊎ Apart (message_text m d ++ ((44, d) ∷ (list_text l d ++ (x ∷ X)))) (message_text m' d ++ ((44, d) ∷ (list_text l' d ++ (y ∷ Y)))) →
      SameList l l' d ⊎ Apart (list_text l d ++ (x ∷ X)) (list_text l' d ++ (y ∷ Y)) →
      SameList (more m l) (more m' l') d ⊎ Apart (list_text (more m l) d ++ (x ∷ X)) (list_text (more m' l') d ++ (y ∷ Y))
  unfolding message_text message_says
  more_apart m m' l l' r lists = rw (more_text m l d (x ∷ X), more_text m' l' d (y ∷ Y)) (elim r [
    | inr a ↦ inr a
    | inl (t, u) ↦ elim lists [
      | inl (v, w) ↦ inl (cc, cc)
      | inr a ↦ inr (rw t (apart_behind (message_text m' d) (later a)))
    ]
  ])

mutual
  unfolding message_text

  pub message_apart : (m m' : Message) (d : ℕ) (x y : ℕ × ℕ) (X Y : Text) → MessageEnds m x.0 → MessageEnds m' y.0 →
      SameMessage m m' d ⊎ Apart (message_text m d ++ (x ∷ X)) (message_text m' d ++ (y ∷ Y))
  message_apart (atom n h) (atom n' h') d x y X Y i j = atom_apart d x y X Y n n' h h' i j
  message_apart (atom n h) (variable n' h') d x y X Y i j = inr (here (eqb-false 97 88 refl))
  message_apart (atom n h) (apply n' h' l') d x y X Y i j = inr (here (eqb-false 97 102 refl))
  message_apart (atom n h) (seal l' k') d x y X Y i j = inr (here (eqb-false 97 123 refl))
  message_apart (atom n h) (group l') d x y X Y i j = inr (here (eqb-false 97 40 refl))
  message_apart (variable n h) (atom n' h') d x y X Y i j = inr (here (eqb-false 88 97 refl))
  message_apart (variable n h) (variable n' h') d x y X Y i j = variable_apart d x y X Y n n' h h' i j
  message_apart (variable n h) (apply n' h' l') d x y X Y i j = inr (here (eqb-false 88 102 refl))
  message_apart (variable n h) (seal l' k') d x y X Y i j = inr (here (eqb-false 88 123 refl))
  message_apart (variable n h) (group l') d x y X Y i j = inr (here (eqb-false 88 40 refl))
  message_apart (apply n h l) (atom n' h') d x y X Y i j = inr (here (eqb-false 102 97 refl))
  message_apart (apply n h l) (variable n' h') d x y X Y i j = inr (here (eqb-false 102 88 refl))
  message_apart (apply n h l) (apply n' h' l') d x y X Y i j =
      apply_apart d x y X Y n n' h h' l l' (list_apart l l' (suc d) (41, d) (41, d) (x ∷ X) (y ∷ Y) (list_ends l 41 closing (eqb-false 41 44 refl)) (list_ends l' 41 closing (eqb-false 41 44 refl)))
  message_apart (apply n h l) (seal l' k') d x y X Y i j = inr (here (eqb-false 102 123 refl))
  message_apart (apply n h l) (group l') d x y X Y i j = inr (here (eqb-false 102 40 refl))
  message_apart (seal l k) (atom n' h') d x y X Y i j = inr (here (eqb-false 123 97 refl))
  message_apart (seal l k) (variable n' h') d x y X Y i j = inr (here (eqb-false 123 88 refl))
  message_apart (seal l k) (apply n' h' l') d x y X Y i j = inr (here (eqb-false 123 102 refl))
  message_apart (seal l k) (seal l' k') d x y X Y i j =
      seal_apart d x y X Y l l' k k'
      (λ X' Y'. list_apart l l' (suc d) (124, d) (124, d) X' Y' (list_ends l 124 bar (eqb-false 124 44 refl)) (list_ends l' 124 bar (eqb-false 124 44 refl)))
      (message_apart k k' (suc d) x y X Y i j)
  message_apart (seal l k) (group l') d x y X Y i j = inr (here (eqb-false 123 40 refl))
  message_apart (group l) (atom n' h') d x y X Y i j = inr (here (eqb-false 40 97 refl))
  message_apart (group l) (variable n' h') d x y X Y i j = inr (here (eqb-false 40 88 refl))
  message_apart (group l) (apply n' h' l') d x y X Y i j = inr (here (eqb-false 40 102 refl))
  message_apart (group l) (seal l' k') d x y X Y i j = inr (here (eqb-false 40 123 refl))
  message_apart (group l) (group l') d x y X Y i j =
      group_apart d x y X Y l l' (list_apart l l' (suc d) (41, d) (41, d) (x ∷ X) (y ∷ Y) (list_ends l 41 closing (eqb-false 41 44 refl)) (list_ends l' 41 closing (eqb-false 41 44 refl)))

  pub list_apart : (l l' : Messages) (d : ℕ) (x y : ℕ × ℕ) (X Y : Text) → ListEnds l x.0 → ListEnds l' y.0 →
      SameList l l' d ⊎ Apart (list_text l d ++ (x ∷ X)) (list_text l' d ++ (y ∷ Y))
  list_apart (last m) (last m') d x y X Y (i, n) (j, n') = last_apart d x y X Y m m' n n' (message_apart m m' d x y X Y i j)
  list_apart (last m) (more m' l') d x y X Y (i, n) j = inr (last_more d x y X Y m m' l' n (message_apart m m' d x (44, d) X (list_text l' d ++ (y ∷ Y)) i (message_ends m' 44 comma)))
  list_apart (more m l) (last m') d x y X Y i (j, n) = inr (more_last d x y X Y m m' l n (message_apart m m' d (44, d) y (list_text l d ++ (x ∷ X)) Y (message_ends m 44 comma) j))
  list_apart (more m l) (more m' l') d x y X Y i j =
      more_apart d x y X Y m m' l l'
      (message_apart m m' d (44, d) (44, d) (list_text l d ++ (x ∷ X)) (list_text l' d ++ (y ∷ Y)) (message_ends m 44 comma) (message_ends m' 44 comma))
      (list_apart l l' d x y X Y i j)
