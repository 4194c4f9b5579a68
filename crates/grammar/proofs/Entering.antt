-- What a reader that enters one message after another into a table keeps, and when a message is there already.
-- cells_more: one more cell; place_found, cell_found, place_none, cell_none: is it there; entered_grows: a table that is full stays full;
-- list_completed, entered_list: a list's messages, then its pairs from the right; events_stay, events_more: one more entry; line_small, entered_small, cells_small: names and functions fit.
use mathlib.Core.Path.{◌≡◌, refl, sym, ◌∙◌, ap, subst}
use mathlib.Core.Logic.{◌⊎◌, inl, inr}
use mathlib.Core.List.Memᴰ
use mathlib.Core.List.{List, [], ◌∷◌, ◌++◌, map, append_assoc, append-nil, Memᴰ}
use Prim.Native.Nat.{ℕ, ◌≤◌, ◌<◌}
use native.Mathlib.Omega.{arith}
use native.Mathlib.Decide.{dec_lt}
use lib.ListN.{length, length-append, get_or-eq_default}
use Rattle.model.specs.Message.{App}
use Rattle.model.specs.Case.{AT, VA, ONE, AP, MK, LN}
use Rattle.model.proofs.Read.{clash}
use Rattle.model.proofs.Accepted.{Small}
use Rattle.grammar.specs.Typed.{Typed, name, variable, one, two, paired, PartOf, arg, left, right, Entry, learn, make, tree_of}
use Rattle.grammar.specs.Grammar.{Message, atom, apply, seal, group, Messages, last, more, message_says, list_says, Line, line_says}
use Rattle.grammar.specs.Filed.{completed, completions, enter, entered, trees_of, place, cell_of, event_of, file_of}
use Rattle.grammar.specs.Reader.{joins}
use Rattle.grammar.proofs.Trees.{In, in?, tree_at, place_in, place_append, PartsIn, Grown, enter_old, enter_new, entered_behind, entered_append, trees_snoc, tree_in}
use Rattle.grammar.proofs.Filed.{at_in, place_at, part_lower, table_for, cell_at}

-- ---- one more message

map_same : {A B : Type 0} (f g : A → B) (l : List A) → ((x : A) → Memᴰ x l → f x ≡ g x) → map f l ≡ map g l
map_same f g [] h = refl
map_same f g (x ∷ l) h = (let e = h x (Memᴰ.head refl) in let r = map_same f g l (λ y m. h y (Memᴰ.tail m)) in cc)

map_append : {A B : Type 0} (f : A → B) (l m : List A) → map f (l ++ m) ≡ map f l ++ map f m
map_append f [] m = refl
map_append f (x ∷ l) m = ap (λ r. f x ∷ r) (map_append f l m)

-- The cell of a message whose parts are there does not change.
pub cell_more : (trees new : List Typed) (t : Typed) → PartsIn trees t → cell_of (trees ++ new) t ≡ cell_of trees t
cell_more trees new (name n) p = refl
cell_more trees new (variable n) p = refl
cell_more trees new (one g t) p = ap (ONE g) (place_append trees new t p)
cell_more trees new (two h t u) (p, q) = (let x = place_append trees new t p in let y = place_append trees new u q in cc)

-- The parts of what is there are there.
pub parts_in : {trees : List Typed} → Grown trees → (t : Typed) → In trees t → PartsIn trees t
parts_in {trees} g t m = go t (place_in trees t m).1
  where
    go : (t : Typed) → tree_at trees (place trees t) ≡ t → PartsIn trees t
    go (name n) e = tt
    go (variable n) e = tt
    go (one k u) e = (part_lower g (place trees (one k u)) u (subst (λ x. PartOf x u) (sym e) arg)).0
    go (two k u v) e = ((part_lower g (place trees (two k u v)) u (subst (λ x. PartOf x u) (sym e) left)).0, (part_lower g (place trees (two k u v)) v (subst (λ x. PartOf x v) (sym e) right)).0)

-- With further messages the cells that are there stay.
pub cells_behind : {trees : List Typed} → Grown trees → (new : List Typed) → map (cell_of (trees ++ new)) (trees ++ new) ≡ map (cell_of trees) trees ++ map (cell_of (trees ++ new)) new
cells_behind {trees} g new =
    map_append (cell_of (trees ++ new)) trees new
    ∙ ap (λ l. l ++ map (cell_of (trees ++ new)) new) (map_same (cell_of (trees ++ new)) (cell_of trees) trees (λ t m. cell_more trees new t (parts_in g t m)))

-- One more message is one more cell.
pub cells_more : {trees : List Typed} → Grown trees → (t : Typed) → PartsIn trees t → map (cell_of (trees ++ (t ∷ []))) (trees ++ (t ∷ [])) ≡ map (cell_of trees) trees ++ (cell_of trees t ∷ [])
cells_more {trees} g t p = cells_behind g (t ∷ []) ∙ ap (λ k. map (cell_of trees) trees ++ (k ∷ [])) (cell_more trees (t ∷ []) t p)

-- ---- is it there?

place_one : {trees : List Typed} → (t u : Typed) → In trees t → In trees u → place trees t ≡ place trees u → t ≡ u
place_one {trees} t u m n e = sym (place_in trees t m).1 ∙ (ap (tree_at trees) e ∙ (place_in trees u n).1)

-- Two messages that are no variables, with their parts there, have one cell only if they are one.
pub cell_one : (trees : List Typed) (t u : Typed) → PartsIn trees t → PartsIn trees u → (cell_of trees u ≡ VA → ⊥) → cell_of trees t ≡ cell_of trees u → t ≡ u
cell_one trees (name n) (name m) p q s e = (let z : n ≡ m = cc in ap name z)
cell_one trees (name n) (variable m) p q s e = absurd (s refl)
cell_one trees (name n) (one f c) p q s e = clash (cc)
cell_one trees (name n) (two k c d) p q s e = clash (cc)
cell_one trees (variable n) u p q s e = absurd (s (sym e))
cell_one trees (one g a) (name m) p q s e = clash (cc)
cell_one trees (one g a) (variable m) p q s e = absurd (s refl)
cell_one trees (one g a) (one f c) p q s e = (let z : g ≡ f = cc in let y = place_one a c p q (cc) in cc)
cell_one trees (one g a) (two k c d) p q s e = clash (cc)
cell_one trees (two h a b) (name m) p q s e = clash (cc)
cell_one trees (two h a b) (variable m) p q s e = absurd (s refl)
cell_one trees (two h a b) (one f c) p q s e = clash (cc)
cell_one trees (two h a b) (two k c d) (p, p') (q, q') s e = (let z : h ≡ k = cc in let y = place_one a c p q (cc) in let x = place_one b d p' q' (cc) in cc)

-- Found: at the place c stands the message.
pub place_found : {trees : List Typed} → Grown trees → (t : Typed) (c : ℕ) → c < length trees → tree_at trees c ≡ t → In trees t × (place trees t ≡ c)
place_found {trees} g t c h e = (subst (In trees) e (at_in trees c h), ap (place trees) (sym e) ∙ place_at g c h)

-- Found by its cell: a message that is no variable, its parts there.
pub cell_found : {trees : List Typed} → Grown trees → (t : Typed) → PartsIn trees t → (c : ℕ) → c < length trees → (cell_of trees t ≡ VA → ⊥) →
    table_for trees c ≡ cell_of trees t → In trees t × (place trees t ≡ c)
cell_found {trees} g t p c h s e =
    place_found g t c h (cell_one trees (tree_at trees c) t (parts_in g (tree_at trees c) (at_in trees c h)) p s (sym (cell_at trees c) ∙ e))

-- Not found: at no place stands the message, or at no place its cell.
pub place_none : (trees : List Typed) (t : Typed) → ((c : ℕ) → c < length trees → tree_at trees c ≡ t → ⊥) → In trees t → ⊥
place_none trees t none m = let (h, e) = place_in trees t m in none (place trees t) h e

pub cell_none : (trees : List Typed) (t : Typed) → ((c : ℕ) → c < length trees → table_for trees c ≡ cell_of trees t → ⊥) → In trees t → ⊥
cell_none trees t none m = let (h, e) = place_in trees t m in none (place trees t) h (cell_at trees (place trees t) ∙ ap (cell_of trees) e)

-- A table that is full stays full.
pub entered_grows : (trees ts : List Typed) → length trees ≤ length (entered trees ts)
entered_grows trees ts =
    let (new, e) = entered_behind trees ts in
    let z = length-append trees new in
    let y = ap (λ (l : List Typed). length l) e in
    omega arith

-- ---- lists

-- Messages paired to the right, u the last.
abbrev pub right_of : List Typed → Typed → Typed
right_of [] u = u
right_of (t ∷ ts) u = paired t (right_of ts u)

-- Their pairs, from the right.
abbrev pub pairs_of : List Typed → Typed → List Typed
pairs_of [] u = []
pairs_of (t ∷ ts) u = pairs_of ts u ++ (paired t (right_of ts u) ∷ [])

-- What each completes, one after the other.
abbrev pub all_completed : List Typed → List Typed
all_completed [] = []
all_completed (t ∷ ts) = completed t ++ all_completed ts

pub joins_says : (ms : List Message) (l : Messages) → list_says (joins ms l) ≡ right_of (map message_says ms) (list_says l)
unfolding message_says
joins_says [] l = refl
joins_says (m ∷ ms) l = ap (paired (message_says m)) (joins_says ms l)

pub last_says : (m : Message) → list_says (last m) ≡ message_says m
unfolding message_says
last_says m = refl

-- A list completes what its messages complete, then its pairs from the right.
pub list_completed : (ts : List Typed) (u : Typed) → completed (right_of ts u) ≡ all_completed ts ++ (completed u ++ pairs_of ts u)
unfolding completed
list_completed [] u = sym (append-nil (completed u))
list_completed (t ∷ ts) u =
    let whole = paired t (right_of ts u) ∷ [] in
    ap (λ l. completed t ++ (l ++ whole)) (list_completed ts u)
    ∙ (ap (λ l. completed t ++ l) (append_assoc (all_completed ts) (completed u ++ pairs_of ts u) whole)
    ∙ (ap (λ l. completed t ++ (all_completed ts ++ l)) (append_assoc (completed u) (pairs_of ts u) whole)
    ∙ sym (append_assoc (completed t) (all_completed ts) (completed u ++ (pairs_of ts u ++ whole)))))

pub all_completed_snoc : (ts : List Typed) (t : Typed) → all_completed (ts ++ (t ∷ [])) ≡ all_completed ts ++ completed t
all_completed_snoc [] t = append-nil (completed t)
all_completed_snoc (s ∷ ts) t = ap (λ l. completed s ++ l) (all_completed_snoc ts t) ∙ sym (append_assoc (completed s) (all_completed ts) (completed t))

-- The table after a list: after its messages, then its pairs.
pub entered_list : (trees ts : List Typed) (u : Typed) → entered trees (completed (right_of ts u)) ≡ entered (entered (entered trees (all_completed ts)) (completed u)) (pairs_of ts u)
entered_list trees ts u =
    ap (entered trees) (list_completed ts u)
    ∙ (entered_append trees (all_completed ts) (completed u ++ pairs_of ts u) ∙ entered_append (entered trees (all_completed ts)) (completed u) (pairs_of ts u))

-- ---- one more entry

event_more : (trees new : List Typed) (e : Entry) → In trees (tree_of e) → event_of (trees ++ new) e ≡ event_of trees e
event_more trees new (learn t) m = ap LN (place_append trees new t m)
event_more trees new (make t) m = ap MK (place_append trees new t m)

-- The events of the entries before stay.
pub events_stay : (es : List Entry) (e : Entry) → map (event_of (trees_of (es ++ (e ∷ [])))) es ≡ (file_of es).events
events_stay es e =
    let (new, z) = entered_behind (trees_of es) (completed (tree_of e)) in
    map_same (event_of (trees_of (es ++ (e ∷ [])))) (event_of (trees_of es)) es
    (λ x m. ap (λ trees. event_of trees x) (trees_snoc es e ∙ z) ∙ event_more (trees_of es) new x (tree_in es x m))

pub events_more : (es : List Entry) (e : Entry) → (file_of (es ++ (e ∷ []))).events ≡ (file_of es).events ++ (event_of (trees_of (es ++ (e ∷ []))) e ∷ [])
events_more es e = map_append (event_of (trees_of (es ++ (e ∷ [])))) es (e ∷ []) ∙ ap (λ l. l ++ (event_of (trees_of (es ++ (e ∷ []))) e ∷ [])) (events_stay es e)

-- ---- names and functions fit

-- Names and variables' numbers are at most 65,535, functions at most 255.
abbrev pub SmallTree : Typed → Type 0
SmallTree (name n) = n ≤ 65535
SmallTree (variable n) = n ≤ 65535
SmallTree (one (App f) t) = (f ≤ 255) × SmallTree t
SmallTree (two h t u) = SmallTree t × SmallTree u

mutual
  unfolding message_says

  pub message_small : (m : Message) → SmallTree (message_says m)
  message_small (atom n h) = h
  message_small (Message.variable n h) = h
  message_small (apply f h l) = (h, list_small l)
  message_small (seal l k) = (list_small l, message_small k)
  message_small (group l) = list_small l

  pub list_small : (l : Messages) → SmallTree (list_says l)
  list_small (last m) = message_small m
  list_small (more m l) = (message_small m, list_small l)

pub line_small : (l : Line) → SmallTree (tree_of (line_says l))
line_small (Line.learn l) = list_small l
line_small (Line.make l) = list_small l

completed_small : (t : Typed) → SmallTree t → (u : Typed) → Memᴰ u (completed t) → SmallTree u
unfolding completed
completed_small (name n) h u m = subst SmallTree (sym (Memᴰ.eq_of_singleton m)) h
completed_small (variable n) h u m = subst SmallTree (sym (Memᴰ.eq_of_singleton m)) h
completed_small (one (App f) t) (h, k) u m = elim (Memᴰ.append_cases (completed t) m) [
  | inl n ↦ completed_small t k u n
  | inr n ↦ subst SmallTree (sym (Memᴰ.eq_of_singleton n)) (h, k)
]
completed_small (two k t v) (h, i) u m = elim (Memᴰ.append_cases (completed t) m) [
  | inl n ↦ completed_small t h u n
  | inr n ↦ elim (Memᴰ.append_cases (completed v) n) [
    | inl o ↦ completed_small v i u o
    | inr o ↦ subst SmallTree (sym (Memᴰ.eq_of_singleton o)) (h, i)
  ]
]

-- What is there was there, or was entered.
entered_from : (trees ts : List Typed) (u : Typed) → In (entered trees ts) u → In trees u ⊎ Memᴰ u ts
unfolding entered
entered_from trees [] u m = inl m
entered_from trees (t ∷ ts) u m = elim (entered_from (enter trees t) ts u m) [
  | inr n ↦ inr (Memᴰ.tail n)
  | inl n ↦ elim (in? trees t) [
    | inl o ↦ inl (subst (λ l. In l u) (enter_old trees t o) n)
    | inr o ↦ elim (Memᴰ.append_cases trees (subst (λ l. In l u) (enter_new trees t o) n)) [
      | inl p ↦ inl p
      | inr p ↦ inr (Memᴰ.head (Memᴰ.eq_of_singleton p))
    ]
  ]
]

-- All messages of a table fit.
abbrev pub AllSmall : List Typed → Type 0
AllSmall trees = (t : Typed) → In trees t → SmallTree t

pub entered_small : (trees : List Typed) (t : Typed) → AllSmall trees → SmallTree t → AllSmall (entered trees (completed t))
entered_small trees t all h u m = elim (entered_from trees (completed t) u m) [ inl n ↦ all u n | inr n ↦ completed_small t h u n ]

completions_from : (es : List Entry) (u : Typed) → Memᴰ u (completions es) → (e : Entry) × Memᴰ e es × Memᴰ u (completed (tree_of e))
unfolding completions
completions_from [] u m = absurd (Memᴰ.not-nil m)
completions_from (e ∷ es) u m = elim (Memᴰ.append_cases (completed (tree_of e)) m) [
  | inl n ↦ (e, Memᴰ.head refl, n)
  | inr n ↦ (let (f, o, p) = completions_from es u n in (f, Memᴰ.tail o, p))
]

pub trees_small : (es : List Entry) → ((e : Entry) → Memᴰ e es → SmallTree (tree_of e)) → AllSmall (trees_of es)
trees_small es all u m = elim (entered_from [] (completions es) u m) [
  | inl n ↦ absurd (Memᴰ.not-nil n)
  | inr n ↦ (let (e, o, p) = completions_from es u n in completed_small (tree_of e) (all e o) u p)
]

at_small : (trees : List Typed) → AllSmall trees → (c : ℕ) → SmallTree (tree_at trees c)
at_small trees all c = elim (dec_lt c (length trees)) [
  | yes h ↦ all (tree_at trees c) (at_in trees c h)
  | no h ↦ subst SmallTree (sym (get_or-eq_default trees (name 0) (let k : length trees ≤ c = omega arith in k))) (omega arith)
]

cell_name : (trees : List Typed) (t : Typed) (n : ℕ) → SmallTree t → cell_of trees t ≡ AT n → n < 65536
cell_name trees (name m) n h e = (let z : m ≡ n = cc in omega arith)
cell_name trees (variable m) n h e = clash (cc)
cell_name trees (one g t) n h e = clash (cc)
cell_name trees (two k t u) n h e = clash (cc)

cell_function : (trees : List Typed) (t : Typed) (f a : ℕ) → SmallTree t → cell_of trees t ≡ AP f a → f < 256
cell_function trees (name m) f a h e = clash (cc)
cell_function trees (variable m) f a h e = clash (cc)
cell_function trees (one (App g) t) f a (h, k) e = (let z : g ≡ f = cc in omega arith)
cell_function trees (two k t u) f a h e = clash (cc)

-- So do those of its cells: with `cell_fits` of the model they fit their bytes.
pub cells_small : (trees : List Typed) → AllSmall trees → Small (map (cell_of trees) trees)
cells_small trees all = record {
  names = λ c n e. cell_name trees (tree_at trees c) n (at_small trees all c) (sym (cell_at trees c) ∙ e);
  functions = λ c f a e. cell_function trees (tree_at trees c) f a (at_small trees all c) (sym (cell_at trees c) ∙ e);
}
