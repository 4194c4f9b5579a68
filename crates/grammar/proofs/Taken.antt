-- Entries that were taken one by one: their file is one that the reader of case files accepts, and a text that says entries is the lines of the grammar that say them.
use mathlib.Core.Path.{◌≡◌, refl, sym, ◌∙◌, ap, subst}
use mathlib.Core.Logic.{◌⊎◌, inl, inr, ◌↔◌}
use mathlib.Core.Bool.{false}
use mathlib.Core.Option.{Option, some}
use mathlib.Core.List.Memᴰ
use mathlib.Core.List.{List, [], ◌∷◌, ◌++◌, map, append_assoc, append-nil, head-eq_of_cons-eq, tail-eq_of_cons-eq}
use Prim.Native.Nat.{ℕ, zero, suc, ◌+◌, ◌≤◌, ◌<◌}
use native.Mathlib.Omega.{arith}
use native.Mathlib.Decide.{dec_lt}
use lib.ListN.{length, get_elem?, take, length-append}
use lib.Seq.{append_snoc, take-append_seam}
use Rattle.model.specs.Message.{Message}
use Rattle.model.specs.Case.{Event, LN, table_of, run_of, message, Within, WellFormed}
use Rattle.model.specs.Format.{read_file, accepted, joined, file_bytes}
use Rattle.model.specs.Stored.{aim}
use Rattle.model.proofs.Read.{clash}
use Rattle.model.proofs.Listed.{member_place, place_member, elem_snoc, elem_append}
use Rattle.model.proofs.Accepted.{Accepted}
use Rattle.model.proofs.Written.{written_read}
use Rattle.grammar.specs.Typed.{Typed, variable, shows, Holds, Entry, learn, make, tree_of}
use Rattle.grammar.specs.Grammar.{Line, line_text, line_bytes, line_says, Shallow}
use Rattle.grammar.specs.Filed.{completions, entered, trees_of, place, cell_of, event_of, file_of, TooMany, is_loose}
use Rattle.grammar.specs.Text.{said, Told, finished, line}
use Rattle.grammar.proofs.Trees.{In, tree_at, place_in, entered_behind, entered_append, completions_append, grown_trees, tree_in}
use Rattle.grammar.proofs.Filed.{place_at, table_for, lower_for, by_number, shown_in, solid_past, within_holds, holds_within, variable_at, Backed, loose_backed}

-- None of the entries was one too many, and none was loose.
pub data Taken : List Entry → Type 0 where
  none : Taken []
  more : {all : List Entry} (es : List Entry) (e : Entry) → Taken es → (TooMany (es ++ (e ∷ [])) → ⊥) → is_loose es e ≡ false → all ≡ es ++ (e ∷ []) → Taken all

-- ---- lists

module _ {A B : Type 0} (f : A → B) where
  elem_map : (l : List A) (p : ℕ) (x : A) → get_elem? l p ≡ some x → get_elem? (map f l) p ≡ some (f x)
  elem_map [] p x e = clash (cc)
  elem_map (y ∷ l) zero x e = (let z : y ≡ x = cc in ap (λ y. some (f y)) z)
  elem_map (y ∷ l) (suc p) x e = elem_map l p x e

  map_elem : (l : List A) (p : ℕ) (y : B) → get_elem? (map f l) p ≡ some y → (x : A) × (get_elem? l p ≡ some x) × (f x ≡ y)
  map_elem [] p y e = clash (cc)
  map_elem (x ∷ l) zero y e = (x, refl, cc)
  map_elem (x ∷ l) (suc p) y e = map_elem l p y e

  length_map : (l : List A) → length (map f l) ≡ length l
  length_map [] = refl
  length_map (x ∷ l) = (let z = length_map l in omega arith)

-- ---- variables

-- The entry behind others is not loose: each variable of a learnt message stands in one that was made.
pub tied_backed : (es : List Entry) (t : Typed) → (is_loose es (learn t) ≡ false) ↔ Backed es t
tied_backed es t =
    let e = learn t in
    let trees = trees_of (es ++ (e ∷ [])) in
    loose_backed trees (grown_trees (es ++ (e ∷ []))) es (λ x m. tree_in (es ++ (e ∷ [])) x (Memᴰ.append_left (e ∷ []) m)) t
    (tree_in (es ++ (e ∷ [])) e (Memᴰ.append_right es (Memᴰ.head refl)))

taken_backed : {es : List Entry} → Taken es → (p : ℕ) (t : Typed) → get_elem? es p ≡ some (learn t) → (n : ℕ) → Holds n t →
    (q : ℕ) × (u : Typed) × (q < p) × (get_elem? es q ≡ some (make u)) × Holds n u
taken_backed none p t e n h = clash (cc)
taken_backed (more es x k few tied z) p t e n h = rw z (elim (elem_snoc es x p) [
  | inl (i, j) ↦
      (let y : x ≡ learn t = latter (ap (λ (l : List Entry). get_elem? l p) (sym z) ∙ e) j in
      let (u, m, g) = (tied_backed es t).0 (subst (λ a. is_loose es a ≡ false) y tied) n h in
      let (q, l, w) = member_place m in
      (q, u, omega arith, elem_append es (x ∷ []) q (make u) w, g))
  | inr j ↦
      (let (q, u, l, w, g) = taken_backed k p t (sym j ∙ (ap (λ (l : List Entry). get_elem? l p) (sym z) ∙ e)) n h in
      (q, u, l, elem_append es (x ∷ []) q (make u) w, g))
])
  where
    latter : {o : Option Entry} → o ≡ some (learn t) → o ≡ some x → x ≡ learn t
    latter a b = cc

taken_few : {es : List Entry} → Taken es → (length (file_of es).cells ≤ 128) × (length (file_of es).events ≤ 128)
unfolding entered completions
taken_few none = (omega arith, omega arith)
taken_few (more es x k few tied z) = rw z (elim (dec_lt 128 (length (file_of (es ++ (x ∷ []))).cells)) [
  | yes h ↦ absurd (few (inl h))
  | no h ↦ elim (dec_lt 128 (length (file_of (es ++ (x ∷ []))).events)) [
    | yes i ↦ absurd (few (inr i))
    | no i ↦ (omega arith, omega arith)
  ]
])

-- ---- the file

event_aim : (trees : List Typed) (e : Entry) → aim (event_of trees e) ≡ place trees (tree_of e)
event_aim trees (learn t) = refl
event_aim trees (make t) = refl

learn_event : (trees : List Typed) (e : Entry) (c : ℕ) → event_of trees e ≡ LN c → (t : Typed) × (e ≡ learn t) × (c ≡ place trees t)
learn_event trees (learn t) c e = (t, refl, cc)
learn_event trees (make t) c e = clash (cc)

-- The file of entries that were taken keeps what an accepted file keeps.
pub taken_accepted : {es : List Entry} → Taken es → Accepted (file_of es)
taken_accepted {es} k = record {
  few_cells = (taken_few k).0;
  few_events = (taken_few k).1;
  lower = lower_for (grown_trees es);
  inside = aims;
  formed = formed;
}
  where
    trees : List Typed
    trees = trees_of es

    entry_in : (p : ℕ) (e : Entry) → get_elem? es p ≡ some e → In (trees_of es) (tree_of e)
    entry_in p e i = tree_in es e (place_member es p e i)

    aims : (p : ℕ) (x : Event) → run_of (map (event_of (trees_of es)) es) p ≡ some x → aim x < length (map (cell_of (trees_of es)) (trees_of es))
    aims p x e =
        let (a, i, z) = map_elem (event_of (trees_of es)) es p x e in
        let h = (place_in (trees_of es) (tree_of a) (entry_in p a i)).0 in
        let y : aim x ≡ place (trees_of es) (tree_of a) = ap aim (sym z) ∙ event_aim (trees_of es) a in
        let w = length_map (cell_of (trees_of es)) (trees_of es) in
        omega arith

    formed : WellFormed (table_for (trees_of es)) (run_of (map (event_of (trees_of es)) es))
    formed p c v e z w =
        let g = grown_trees es in
        let (a, i, y) = map_elem (event_of (trees_of es)) es p (LN c) e in
        let (t, b, d) = learn_event (trees_of es) a c y in
        let (n, is) = variable_at (trees_of es) v z in
        let j : get_elem? es p ≡ some (learn t) = i ∙ ap some b in
        let spot : tree_at (trees_of es) c ≡ t = ap (tree_at (trees_of es)) d ∙ (place_in (trees_of es) t (entry_in p (learn t) j)).1 in
        let (q, u, l, m, h) = taken_backed k p t j n (subst (Holds n) spot (within_holds g v n is w)) in
        let f : place (trees_of es) (variable n) ≡ v = ap (place (trees_of es)) (sym is) ∙ place_at g v (solid_past (trees_of es) v n is) in (
          q,
          place (trees_of es) u,
          l,
          elem_map (event_of (trees_of es)) es q (make u) m,
          subst (λ x. Within (table_for (trees_of es)) x (place (trees_of es) u)) f (holds_within g n h (place (trees_of es) u) (place_in (trees_of es) u (entry_in q (make u) m)).1),
        )

-- ---- in plain words

-- At most 128 cells and 128 events, and each variable of a learnt message stands in one that was made before it.
pub record Bounded (es : List Entry) : Type 0 where
  pub cells : length (file_of es).cells ≤ 128
  pub events : length (file_of es).events ≤ 128
  pub backed : (p : ℕ) (t : Typed) → get_elem? es p ≡ some (learn t) → Backed (take p es) t

elem_take : (es : List Entry) (p q : ℕ) (e : Entry) → q < p → get_elem? es q ≡ some e → get_elem? (take p es) q ≡ some e
elem_take [] p q e h i = clash (cc)
elem_take (x ∷ es) zero q e h i = absurd (omega arith)
elem_take (x ∷ es) (suc p) zero e h i = i
elem_take (x ∷ es) (suc p) (suc q) e h i = elem_take es p q e (omega arith) i

taken_bounded : {es : List Entry} → Taken es → Bounded es
taken_bounded {es} k = record {
  cells = (taken_few k).0;
  events = (taken_few k).1;
  backed = λ p t e n h. let (q, u, l, m, g) = taken_backed k p t e n h in (u, place_member (take p es) q (make u) (elem_take es p q (make u) l m), g);
}

-- Fewer entries have no more cells.
cells_fewer : (es fs : List Entry) → length (file_of es).cells ≤ length (file_of (es ++ fs)).cells
cells_fewer es fs =
    let a = length_map (cell_of (trees_of es)) (trees_of es) in
    let b = length_map (cell_of (trees_of (es ++ fs))) (trees_of (es ++ fs)) in
    let (new, e) = entered_behind (trees_of es) (completions fs) in
    let z : trees_of (es ++ fs) ≡ trees_of es ++ new = ap (entered []) (completions_append es fs) ∙ (entered_append [] (completions es) (completions fs) ∙ e) in
    let y = ap (λ (l : List Typed). length l) z in
    let x = length-append (trees_of es) new in
    omega arith

events_fewer : (es fs : List Entry) → length (file_of es).events ≤ length (file_of (es ++ fs)).events
events_fewer es fs =
    let a = length_map (event_of (trees_of es)) es in
    let b = length_map (event_of (trees_of (es ++ fs))) (es ++ fs) in
    let c = length-append es fs in
    omega arith

elem_here : (es : List Entry) (x : Entry) (xs : List Entry) → get_elem? (es ++ (x ∷ xs)) (length es) ≡ some x
elem_here [] x xs = refl
elem_here (e ∷ es) x xs = elem_here es x xs

bounded_next : (es : List Entry) (x : Entry) (xs : List Entry) → Bounded (es ++ (x ∷ xs)) → (TooMany (es ++ (x ∷ [])) → ⊥) × (is_loose es x ≡ false)
bounded_next es x xs b = (few, tied x refl)
  where
    whole : es ++ (x ∷ []) ++ xs ≡ es ++ (x ∷ xs)
    whole = append_snoc es x xs

    few : TooMany (es ++ (x ∷ [])) → ⊥
    few (inl h) = (let c = cells_fewer (es ++ (x ∷ [])) xs in let z = ap (λ l. length (file_of l).cells) whole in omega (arith, b.cells))
    few (inr h) = (let c = events_fewer (es ++ (x ∷ [])) xs in let z = ap (λ l. length (file_of l).events) whole in omega (arith, b.events))

    tied : (y : Entry) → x ≡ y → is_loose es y ≡ false
    tied (learn t) e =
        (tied_backed es t).1 (subst (λ l. Backed l t) (take-append_seam es (x ∷ xs)) (b.backed (length es) t (elem_here es x xs ∙ ap some e)))
    tied (make t) e = refl

bounded_taken : (xs es : List Entry) → Taken es → Bounded (es ++ xs) → Taken (es ++ xs)
bounded_taken [] es k b = subst Taken (sym (append-nil es)) k
bounded_taken (x ∷ xs) es k b =
    let (few, tied) = bounded_next es x xs b in
    let z = append_snoc es x xs in
    subst Taken z (bounded_taken xs (es ++ (x ∷ [])) (more es x k few tied refl) (subst Bounded (sym z) b))

-- ---- the text

told_taken : {es : List Entry} {at : ℕ} {text : List ℕ} {fs : List Entry} → Taken es → Told es at text (said fs) → Taken fs
told_taken k finished = k
told_taken {es} k (line l rest f few tied t) = told_taken (more es (line_says l) k few tied refl) t

-- The file of a text is accepted.
pub said_accepted : (text : List ℕ) (es : List Entry) → Told [] 0 text (said es) → read_file (file_bytes (file_of es)) ≡ accepted (file_of es)
said_accepted text es t = written_read (file_of es) (taken_accepted (told_taken none t))

-- Its events are those of the entries; under any values of its variables' cells each shows what was typed, the variable n having the value of its cell.
pub events_show : (es : List Entry) (p : ℕ) (e : Entry) → get_elem? es p ≡ some e →
    (run_of (file_of es).events p ≡ some (event_of (trees_of es) e))
    × ((σ : ℕ → Message) → message (table_of (file_of es).cells) σ (aim (event_of (trees_of es) e)) ≡ shows (by_number (trees_of es) σ) (tree_of e))
events_show es p e i = (
  elem_map (event_of (trees_of es)) es p e i,
  λ σ. ap (message (table_for (trees_of es)) σ) (event_aim (trees_of es) e) ∙ shown_in (grown_trees es) σ (tree_of e) (tree_in es e (place_member es p e i)),
)

-- Lines that are all within the bound of 16.
abbrev pub AllShallow : List Line → Type 0
AllShallow [] = Unit
AllShallow (l ∷ ls) = Shallow (line_text l) × AllShallow ls

told_lines : {es : List Entry} {at : ℕ} {text : List ℕ} {fs : List Entry} → Told es at text (said fs) →
    (ls : List Line) × AllShallow ls × (text ≡ joined line_bytes ls) × (fs ≡ es ++ map line_says ls)
unfolding joined
told_lines {es} finished = ([], tt, refl, sym (append-nil es))
told_lines {es} (line l rest f few tied t) =
    let (ls, h, e, z) = told_lines t in
    (l ∷ ls, (f.shallow, h), f.bytes ∙ ap (λ r. line_bytes l ++ r) e, z ∙ append_snoc es (line_says l) (map line_says ls))

snoc? : (xs : List Entry) → (xs ≡ []) ⊎ ((ys : List Entry) × (y : Entry) × (xs ≡ ys ++ (y ∷ [])))
snoc? [] = inl refl
snoc? (x ∷ xs) = elim (snoc? xs) [
  | inl e ↦ inr ([], x, ap (λ l. x ∷ l) e)
  | inr (ys, y, e) ↦ inr (x ∷ ys, y, ap (λ l. x ∷ l) e)
]

snoc_one : (xs ys : List Entry) (x y : Entry) → xs ++ (x ∷ []) ≡ ys ++ (y ∷ []) → (xs ≡ ys) × (x ≡ y)
snoc_one [] [] x y e = (refl, cc)
snoc_one [] (b ∷ []) x y e = clash (cc)
snoc_one [] (b ∷ (c ∷ ys)) x y e = clash (cc)
snoc_one (a ∷ []) [] x y e = clash (cc)
snoc_one (a ∷ (c ∷ xs)) [] x y e = clash (cc)
snoc_one (a ∷ xs) (b ∷ ys) x y e =
    let (i, j) = snoc_one xs ys x y (tail-eq_of_cons-eq e) in
    let h : a ≡ b = head-eq_of_cons-eq e in
    (cc, j)

-- Each entry that was taken was neither one too many nor loose behind those before it.
taken_next : {all : List Entry} → Taken all → (es : List Entry) (x : Entry) (xs : List Entry) → all ≡ es ++ (x ∷ xs) → (TooMany (es ++ (x ∷ [])) → ⊥) × (is_loose es x ≡ false)
taken_next none [] x xs e = clash (cc)
taken_next none (y ∷ es) x xs e = clash (cc)
taken_next (more gs g k few tied z) es x xs e = elim (snoc? xs) [
  | inl n ↦
      (let (i, j) = snoc_one gs es g x (sym z ∙ (e ∙ ap (λ l. es ++ (x ∷ l)) n)) in
      (subst (λ l. TooMany (l ++ (x ∷ [])) → ⊥) i (subst (λ y. TooMany (gs ++ (y ∷ [])) → ⊥) j few), subst (λ l. is_loose l x ≡ false) i (subst (λ y. is_loose gs y ≡ false) j tied)))
  | inr (ys, y, n) ↦
      (let (i, j) = snoc_one gs (es ++ (x ∷ ys)) g y (sym z ∙ (e ∙ (ap (λ l. es ++ (x ∷ l)) n ∙ sym (append_assoc es (x ∷ ys) (y ∷ []))))) in
      taken_next k es x ys i)
]

lines_told : (ls : List Line) (es : List Entry) (at : ℕ) → AllShallow ls → Taken (es ++ map line_says ls) → Told es at (joined line_bytes ls) (said (es ++ map line_says ls))
unfolding joined
lines_told [] es at h k = subst (λ l. Told es at [] (said l)) (sym (append-nil es)) finished
lines_told (l ∷ ls) es at (h, hs) k =
    let (few, tied) = taken_next k es (line_says l) (map line_says ls) refl in
    let z = append_snoc es (line_says l) (map line_says ls) in
    line l (joined line_bytes ls) (record { bytes = refl; shallow = h }) few tied
    (subst (λ fs. Told (es ++ (line_says l ∷ [])) (at + length (line_bytes l)) (joined line_bytes ls) (said fs)) z
    (lines_told ls (es ++ (line_says l ∷ [])) (at + length (line_bytes l)) hs (subst Taken (sym z) k)))

-- The texts that say entries are exactly the lines of the grammar, within the bound of 16, whose entries are within the bounds.
pub accepted_texts : (text : List ℕ) (es : List Entry) →
    Told [] 0 text (said es) ↔ ((ls : List Line) × AllShallow ls × (text ≡ joined line_bytes ls) × (es ≡ map line_says ls) × Bounded es)
accepted_texts text es = (to, from)
  where
    to : Told [] 0 text (said es) → (ls : List Line) × AllShallow ls × (text ≡ joined line_bytes ls) × (es ≡ map line_says ls) × Bounded es
    to t = let (ls, h, e, z) = told_lines t in (ls, h, e, z, taken_bounded (told_taken none t))

    from : (ls : List Line) × AllShallow ls × (text ≡ joined line_bytes ls) × (es ≡ map line_says ls) × Bounded es → Told [] 0 text (said es)
    from (ls, h, e, z, b) = rw (e, z) (lines_told ls [] 0 h (subst Taken z (bounded_taken es [] none b)))
