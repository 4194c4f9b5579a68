-- The file of entries: its cells show the messages, parts stand lower, and it is accepted if no entry is one too many or loose.
use mathlib.Core.Path.{◌≡◌, refl, sym, ◌∙◌, ap, subst}
use mathlib.Core.Logic.{◌↔◌}
use mathlib.Core.Bool.{false}
use mathlib.Core.List.{List, [], ◌∷◌, ◌++◌, map, Memᴰ}
use Prim.Native.Nat.{ℕ, zero, suc, ◌≤◌, ◌<◌}
use native.Mathlib.Omega.{arith}
use native.Mathlib.Decide.{dec_lt}
use lib.ListN.{length, get_or-map, get_or-append, get_or-eq_default}
use lib.Seq.{get_or-append_seam}
use Rattle.model.specs.Message.{Message}
use Rattle.model.specs.Case.{VA, Event, MK, Table, table_of, look, Reads, message, Part, in_arg, in_left, in_right, Within, here, down, Lower}
use Rattle.model.proofs.Read.{clash, message_reads, reads_one}
use Rattle.model.proofs.Listed.{length_snoc}
use Rattle.model.proofs.Held.{HeldBy, unheld_false}
use Rattle.grammar.specs.Typed.{Typed, name, variable, one, two, shows, PartOf, arg, left, right, Holds, itself, inside, Entry, learn, make, tree_of}
use Rattle.grammar.specs.Filed.{place, cell_of, event_of, loose_in}
use Rattle.grammar.proofs.Trees.{In, tree_at, place_in, place_append, place_new, PartsIn, Grown, none, more}

-- ---- places

pub at_in : (trees : List Typed) (c : ℕ) → c < length trees → In trees (tree_at trees c)
at_in [] c h = absurd (omega arith)
at_in (t ∷ trees) zero h = mathlib.Core.List.Memᴰ.head refl
at_in (t ∷ trees) (suc c) h = mathlib.Core.List.Memᴰ.tail (at_in trees c (omega arith))

-- At a place of a longer list: what was there, the new message, or nothing.
pub data Where (trees : List Typed) (t : Typed) (c : ℕ) : Type 0 where
  old : c < length trees → tree_at (trees ++ (t ∷ [])) c ≡ tree_at trees c → Where trees t c
  new : c ≡ length trees → tree_at (trees ++ (t ∷ [])) c ≡ t → Where trees t c
  past : tree_at (trees ++ (t ∷ [])) c ≡ name 0 → length trees < c → Where trees t c

pub where_at : (trees : List Typed) (t : Typed) (c : ℕ) → Where trees t c
where_at trees t c = elim (dec_lt c (length trees)) [
  | yes h ↦ old h (get_or-append trees (t ∷ []) (name 0) c h)
  | no h ↦ elim (dec_lt (length trees) c) [
    | yes k ↦ past (get_or-eq_default (trees ++ (t ∷ [])) (name 0) (let z = length_snoc trees t in omega arith)) k
    | no k ↦ (let e : c ≡ length trees = omega arith in new e (ap (tree_at (trees ++ (t ∷ []))) e ∙ get_or-append_seam trees t [] (name 0)))
  ]
]

-- No message stands twice.
pub place_at : {trees : List Typed} → Grown trees → (c : ℕ) → c < length trees → place trees (tree_at trees c) ≡ c
place_at none c h = absurd (omega arith)
place_at (more trees t g p n e) c h = subst (λ l. place l (tree_at l c) ≡ c) (sym e) (elim (where_at trees t c) [
  | old k z ↦ ap (place (trees ++ (t ∷ []))) z ∙ (place_append trees (t ∷ []) (tree_at trees c) (at_in trees c k) ∙ place_at g c k)
  | new k z ↦ ap (place (trees ++ (t ∷ []))) z ∙ (place_new trees t n ∙ sym k)
  | past z k ↦ absurd (let q = length_snoc trees t in let r = ap (λ (l : List Typed). length l) e in omega arith)
])

pub parts_of_lem : (trees : List Typed) {t u : Typed} → PartsIn trees t → PartOf t u → In trees u
parts_of_lem trees p h = go h p
  where
    go : {t u : Typed} → PartOf t u → PartsIn trees t → In trees u
    go arg p = p
    go left (p, q) = p
    go right (p, q) = q

no_part_name : {n : ℕ} {u : Typed} → PartOf (name n) u → ⊥
no_part_name p = elim p [ ]

-- The parts of each message stand before it.
pub part_lower : {trees : List Typed} → Grown trees → (c : ℕ) (u : Typed) → PartOf (tree_at trees c) u → In trees u × (place trees u < c)
part_lower none c u p = absurd (no_part_name p)
part_lower (more trees t g parts n e) c u p = subst (λ l. In l u × (place l u < c)) (sym e) (at (where_at trees t c) (λ q. part_lower g c u q))
  where
    here_is : (x : Typed) → tree_at (trees ++ (t ∷ [])) c ≡ x → PartOf x u
    here_is x z = subst (λ y. PartOf y u) (ap (λ (l : List Typed). tree_at l c) e ∙ z) p

    both : In trees u → place trees u < c → In (trees ++ (t ∷ [])) u × (place (trees ++ (t ∷ [])) u < c)
    both m h = (mathlib.Core.List.Memᴰ.append_left (t ∷ []) m, subst (λ x. x < c) (sym (place_append trees (t ∷ []) u m)) h)

    at : Where trees t c → (PartOf (tree_at trees c) u → In trees u × (place trees u < c)) → In (trees ++ (t ∷ [])) u × (place (trees ++ (t ∷ [])) u < c)
    at (old k z) below = let (m, h) = below (here_is (tree_at trees c) z) in both m h
    at (new k z) below = (let m = parts_of_lem trees parts (here_is t z) in both m (let h = (place_in trees u m).0 in omega arith))
    at (past z k) below = absurd (no_part_name (here_is (name 0) z))

-- ---- the table

-- The table of the messages' cells.
abbrev pub table_for : List Typed → Table
table_for trees = table_of (map (cell_of trees) trees)

pub cell_at : (trees : List Typed) (c : ℕ) → table_for trees c ≡ cell_of trees (tree_at trees c)
cell_at trees c = get_or-map (cell_of trees) trees c (name 0)

part_cell : (trees : List Typed) (t : Typed) (d : ℕ) → Part (cell_of trees t) d → (u : Typed) × PartOf t u × (d ≡ place trees u)
part_cell trees (name n) d p = elim p [ ]
part_cell trees (variable n) d p = elim p [ ]
part_cell trees (one g t) d in_arg = (t, arg, refl)
part_cell trees (two h t u) d in_left = (t, left, refl)
part_cell trees (two h t u) d in_right = (u, right, refl)

cell_part : (trees : List Typed) {t u : Typed} → PartOf t u → Part (cell_of trees t) (place trees u)
cell_part trees arg = in_arg
cell_part trees left = in_left
cell_part trees right = in_right

pub lower_for : {trees : List Typed} → Grown trees → Lower (table_for trees)
lower_for {trees} g c d p =
    let (u, q, e) = part_cell trees (tree_at trees c) d (subst (λ k. Part k d) (cell_at trees c) p) in
    let (m, h) = part_lower g c u q in
    omega arith

-- The part of a cell shows the part of its message.
part_at : {trees : List Typed} → Grown trees → (c d : ℕ) → Part (table_for trees c) d → PartOf (tree_at trees c) (tree_at trees d)
part_at {trees} g c d p =
    let (u, q, e) = part_cell trees (tree_at trees c) d (subst (λ k. Part k d) (cell_at trees c) p) in
    let (m, h) = part_lower g c u q in
    subst (PartOf (tree_at trees c)) (sym (ap (tree_at trees) e ∙ (place_in trees u m).1)) q

-- ---- what cells show

pub solid_past : (trees : List Typed) (c n : ℕ) → tree_at trees c ≡ variable n → c < length trees
solid_past trees c n e = elim (dec_lt c (length trees)) [
  | yes h ↦ h
  | no h ↦ (let z = get_or-eq_default trees (name 0) (let k : length trees ≤ c = omega arith in k) in clash (cc))
]

-- The values of the variables by their numbers, from those of their cells.
abbrev pub by_number : List Typed → (ℕ → Message) → ℕ → Message
by_number trees σ n = σ (place trees (variable n))

reads_for : {trees : List Typed} → Grown trees → (σ : ℕ → Message) → Reads (table_for trees) σ (λ c. shows (by_number trees σ) (tree_at trees c))
unfolding shows
reads_for {trees} g σ c = rw (cell_at trees c) (go (tree_at trees c) refl)
  where
    ρ : ℕ → Message
    ρ = by_number trees σ

    part : (t u : Typed) → tree_at trees c ≡ t → PartOf t u → shows ρ u ≡ shows ρ (tree_at trees (place trees u))
    part t u e p = let (m, h) = part_lower g c u (subst (λ x. PartOf x u) (sym e) p) in ap (shows ρ) (sym (place_in trees u m).1)

    go : (t : Typed) → tree_at trees c ≡ t → shows ρ t ≡ look (σ c) (λ d. shows ρ (tree_at trees d)) (cell_of trees t)
    go (name n) e = refl
    go (variable n) e = ap σ (ap (place trees) (sym e) ∙ place_at g c (solid_past trees c n e))
    go (one k t) e = ap (Message.one k) (part (one k t) t e arg)
    go (two k t u) e = (let x = part (two k t u) t e left in let y = part (two k t u) u e right in cc)

-- Under any values of the variables' cells, the cell of a message shows that message, the variable n having the value of its cell.
pub shown_in : {trees : List Typed} → Grown trees → (σ : ℕ → Message) (t : Typed) → In trees t → message (table_for trees) σ (place trees t) ≡ shows (by_number trees σ) t
shown_in {trees} g σ t m =
    reads_one (table_for trees) σ (message (table_for trees) σ) (λ c. shows (by_number trees σ) (tree_at trees c)) (lower_for g)
    (message_reads (table_for trees) σ (lower_for g)) (reads_for g σ) (place trees t)
    ∙ ap (shows (by_number trees σ)) (place_in trees t m).1

-- ---- variables

variable_cell : (trees : List Typed) (t : Typed) → cell_of trees t ≡ VA → (n : ℕ) × (t ≡ variable n)
variable_cell trees (name n) e = clash (cc)
variable_cell trees (variable n) e = (n, refl)
variable_cell trees (one g t) e = clash (cc)
variable_cell trees (two h t u) e = clash (cc)

pub variable_at : (trees : List Typed) (v : ℕ) → table_for trees v ≡ VA → (n : ℕ) × (tree_at trees v ≡ variable n)
variable_at trees v e = variable_cell trees (tree_at trees v) (sym (cell_at trees v) ∙ e)

-- The cells of the variables within a cell are those of the variables of its message.
pub within_holds : {trees : List Typed} → Grown trees → (v n : ℕ) → tree_at trees v ≡ variable n → {c : ℕ} → Within (table_for trees) v c → Holds n (tree_at trees c)
within_holds {trees} g v n e (here i) = subst (Holds n) (sym e ∙ ap (tree_at trees) i) itself
within_holds {trees} g v n e {c} (down {d = d} p w) = inside (part_at g c d p) (within_holds g v n e w)

pub holds_within : {trees : List Typed} → Grown trees → (n : ℕ) {t : Typed} → Holds n t → (c : ℕ) → tree_at trees c ≡ t → Within (table_for trees) (place trees (variable n)) c
holds_within {trees} g n itself c e = here (ap (place trees) (sym e) ∙ place_at g c (solid_past trees c n e))
holds_within {trees} g n (inside {t = t} {u = u} p h) c e =
    let (m, l) = part_lower g c u (subst (λ x. PartOf x u) (sym e) p) in
    down (subst (λ k. Part k (place trees u)) (sym (cell_at trees c)) (cell_part trees (subst (λ x. PartOf x u) (sym e) p))) (holds_within g n h (place trees u) (place_in trees u m).1)

holds_in : {trees : List Typed} → Grown trees → (n : ℕ) {t : Typed} → Holds n t → (c : ℕ) → tree_at trees c ≡ t → In trees (variable n)
holds_in {trees} g n itself c e = subst (In trees) e (at_in trees c (solid_past trees c n e))
holds_in {trees} g n (inside {t = t} {u = u} p h) c e =
    let (m, l) = part_lower g c u (subst (λ x. PartOf x u) (sym e) p) in
    holds_in g n h (place trees u) (place_in trees u m).1

-- Each variable of t stands in a message that an entry makes.
abbrev pub Backed : List Entry → Typed → Type 0
Backed es t = (n : ℕ) → Holds n t → (u : Typed) × Memᴰ (make u) es × Holds n u

make_event : (trees : List Typed) (e : Entry) (c : ℕ) → event_of trees e ≡ MK c → (u : Typed) × (e ≡ make u) × (place trees u ≡ c)
make_event trees (learn t) c e = clash (cc)
make_event trees (make t) c e = (t, refl, cc)

-- 6 is refused exactly if some variable of the learnt message is in none that was made before.
pub loose_backed : (trees : List Typed) → Grown trees → (es : List Entry) → ((e : Entry) → Memᴰ e es → In trees (tree_of e)) → (t : Typed) → In trees t →
    (loose_in trees es (learn t) ≡ false) ↔ Backed es t
loose_backed trees g es all t m = (to, from)
  where
    events : List Event
    events = map (event_of trees) es

    spot : tree_at trees (place trees t) ≡ t
    spot = (place_in trees t m).1

    to : loose_in trees es (learn t) ≡ false → Backed es t
    to e n h =
        let v = place trees (variable n) in
        let is : tree_at trees v ≡ variable n = (place_in trees (variable n) (holds_in g n h (place trees t) spot)).1 in
        let (c, k, w) = (unheld_false (table_for trees) (lower_for g) events (place trees t)).0 e v (cell_at trees v ∙ ap (cell_of trees) is) (holds_within g n h (place trees t) spot) in
        let (x, q, z) = mathlib.Core.List.Memᴰ.of_map (event_of trees) es k in
        let (u, y, i) = make_event trees x c z in
        let q' : Memᴰ (make u) es = subst (λ a. Memᴰ a es) y q in
        (u, q', subst (Holds n) (ap (tree_at trees) (sym i) ∙ (place_in trees u (all (make u) q')).1) (within_holds g v n is w))

    from : Backed es t → loose_in trees es (learn t) ≡ false
    from b = (unheld_false (table_for trees) (lower_for g) events (place trees t)).1 held
      where
        held : (v : ℕ) → table_for trees v ≡ VA → Within (table_for trees) v (place trees t) → HeldBy (table_for trees) (map (event_of trees) es) v
        held v e w =
            let (n, is) = variable_at trees v e in
            let (u, q, h) = b n (subst (Holds n) (place_in trees t m).1 (within_holds g v n is w)) in
            let i : place trees (variable n) ≡ v = ap (place trees) (sym is) ∙ place_at g v (solid_past trees v n is) in
            (place trees u, mathlib.Core.List.Memᴰ.map (event_of trees) q, subst (λ x. Within (table_for trees) x (place trees u)) i (holds_within g n h (place trees u) (place_in trees u (all (make u) q)).1))
