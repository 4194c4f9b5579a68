-- What the definitions must not allow, refuted: each lemma `no-...` says that something is not so.
-- Of messages, building, reducing, lists and files; and that no one reply fits every file.
use mathlib.Core.Path.{◌≡◌, refl, sym, ◌∙◌, subst}
use mathlib.Core.Logic.{inl, inr}
use mathlib.Core.List.Memᴰ
use mathlib.Core.List.{List, [], ◌∷◌, ◌++◌}
use Prim.Native.Nat.{ℕ, zero, suc, ◌≤◌, ◌<◌}
use lib.ListN.{get_or}
use native.Mathlib.Omega.{arith}
use Rattle.model.specs.Message.{Message, atom, pair, seal, app, Made, Opens, Built, Held}
use Rattle.model.specs.Case.{Cell, AT, VA, MK, LN, File, Table, Run, table_of, run_of, shown, message, Reads, Part, Lower, Makable}
use Rattle.model.specs.Values.{RightValues, Entry, RightList, Ends, Equates}
use Rattle.model.specs.Reduce.{Bare, Rest, Inside, whole, deeper}
use Rattle.model.specs.Format.{Kind, mark, read_file, read_from, check, check_kind, kind_of, any_of, variables, Reading, accepted, refused}
use Rattle.model.proofs.Steps.{built_more, size, held_size}
use Rattle.model.proofs.Read.{clash, part_held, list_values}
use Rattle.model.specs.Replies.{RightListed, NoneRight, EquatedBy, NeverEqual}
use Rattle.model.proofs.Claims.{◌gives◌, run_yes, run_no, equate_yes, equate_no, Holds, C, D, R, bytes_of}
use Rattle.model.proofs.Starred.{read_as_lem, its}
use Rattle.model.proofs.Composed.{Shut, name, applied, sealed, shut_built, comp_atom, comp_seal, Among, known_among}

-- ---- messages

-- Two names are two messages.
pub no_equal_atoms : (n k : ℕ) → (n ≡ k → ⊥) → atom n ≡ atom k → ⊥
no_equal_atoms n k ne e = ne (cc)

-- A seal is not the pair of its body and key.
pub no_seal_as_pair : (b k : Message) → seal b k ≡ pair b k → ⊥
no_seal_as_pair b k e = clash (cc)

inside_size : {x y : Message} → Inside x y → size x ≤ size y
inside_size whole = omega arith
inside_size (deeper h i) = (let l = inside_size i in let s = held_size h in omega arith)

-- No message stands in a part of itself.
pub no_message_in_itself : {x y : Message} → Held y x → Inside x y → ⊥
no_message_in_itself h i = (let l = inside_size i in let s = held_size h in omega arith)

-- ---- building

-- From nothing he builds no name but his own.
pub no_atom_from_nothing : (n : ℕ) → (n ≡ 0 → ⊥) → Built (λ x. ⊥) (atom n) → ⊥
no_atom_from_nothing n ne b = elim (comp_atom (shut_built (λ x h. absurd h) b)) [ inl e ↦ ne e | inr h ↦ h ]

-- From nothing he builds no seal under a name that is not his own, whatever the body.
pub no_seal_from_nothing : (b : Message) (k : ℕ) → (k ≡ 0 → ⊥) → Built (λ x. ⊥) (seal b (atom k)) → ⊥
no_seal_from_nothing b k ne h = elim (comp_seal (shut_built (λ x h. absurd h) h)) [
  | inl f ↦ f
  | inr (p, q) ↦ elim (comp_atom q) [ inl e ↦ ne e | inr f ↦ f ]
]

-- An application is one-way: it does not give its argument.
pub no_argument_from_application : (f n : ℕ) → (n ≡ 0 → ⊥) → Built (Among (app f (atom n) ∷ [])) (atom n) → ⊥
no_argument_from_application f n ne b = elim (comp_atom (shut_built shut b)) [ inl e ↦ ne e | inr h ↦ (let e = Memᴰ.eq_of_singleton h in clash (cc)) ]
  where
    shut : (x : Message) → Among (app f (atom n) ∷ []) x → Shut (Among (app f (atom n) ∷ [])) x
    shut x h = subst (Shut (Among (app f (atom n) ∷ []))) (sym (Memᴰ.eq_of_singleton h)) applied

-- A seal without its key does not give its body.
pub no_body_without_key : (n k : ℕ) → (n ≡ 0 → ⊥) → (k ≡ 0 → ⊥) → Built (Among (seal (atom n) (atom k) ∷ [])) (atom n) → ⊥
no_body_without_key n k nn nk b = elim (comp_atom (shut_built shut b)) [ inl e ↦ nn e | inr h ↦ no_name n h ]
  where
    no_name : (i : ℕ) → Among (seal (atom n) (atom k) ∷ []) (atom i) → ⊥
    no_name i h = (let e = Memᴰ.eq_of_singleton h in clash (cc))

    shut : (x : Message) → Among (seal (atom n) (atom k) ∷ []) x → Shut (Among (seal (atom n) (atom k) ∷ [])) x
    shut x h = subst (Shut (Among (seal (atom n) (atom k) ∷ []))) (sym (Memᴰ.eq_of_singleton h)) (sealed nk (no_name k))

-- A seal and its body do not give its key.
pub no_key_from_seal : (n k : ℕ) → (k ≡ 0 → ⊥) → (k ≡ n → ⊥) → Built (Among (atom n ∷ seal (atom n) (atom k) ∷ [])) (atom k) → ⊥
no_key_from_seal n k nk ne b = elim (comp_atom (shut_built shut b)) [ inl e ↦ nk e | inr h ↦ no_key h ]
  where
    no_key : Among (atom n ∷ seal (atom n) (atom k) ∷ []) (atom k) → ⊥
    no_key (Memᴰ.head e) = ne (cc)
    no_key (Memᴰ.tail h) = (let e = Memᴰ.eq_of_singleton h in clash (cc))

    shut : (x : Message) → Among (atom n ∷ seal (atom n) (atom k) ∷ []) x → Shut (Among (atom n ∷ seal (atom n) (atom k) ∷ [])) x
    shut x (Memᴰ.head e) = subst (Shut (Among (atom n ∷ seal (atom n) (atom k) ∷ []))) (sym e) name
    shut x (Memᴰ.tail h) = subst (Shut (Among (atom n ∷ seal (atom n) (atom k) ∷ []))) (sym (Memᴰ.eq_of_singleton h)) (sealed nk no_key)

-- A known body is not sealed under a name that he does not have.
pub no_seal_without_key : (n k : ℕ) → (k ≡ 0 → ⊥) → (k ≡ n → ⊥) → Built (Among (atom n ∷ [])) (seal (atom n) (atom k)) → ⊥
no_seal_without_key n k nk ne b = elim (comp_seal (shut_built shut b)) [
  | inl h ↦ (let e = Memᴰ.eq_of_singleton h in clash (cc))
  | inr (p, q) ↦ elim (comp_atom q) [ inl e ↦ nk e | inr h ↦ (let e = Memᴰ.eq_of_singleton h in ne (cc)) ]
]
  where
    shut : (x : Message) → Among (atom n ∷ []) x → Shut (Among (atom n ∷ [])) x
    shut x h = subst (Shut (Among (atom n ∷ []))) (sym (Memᴰ.eq_of_singleton h)) name

-- A later LN does not help an earlier MK.
pub no_later_learn : (n : ℕ) (m : ℕ → Message) → (n ≡ 0 → ⊥) → m 0 ≡ atom n → Makable (run_of (MK 0 ∷ LN 0 ∷ [])) m → ⊥
no_later_learn n m ne i makes = no_atom_from_nothing n ne (subst (Built (λ x. ⊥)) i (built_more (λ x h. Memᴰ.not-nil (known_among m (MK 0 ∷ LN 0 ∷ []) 0 x h)) (makes 0 0 refl)))

-- ---- reducing

-- A pair is never bare, and his own name is not listed.
pub no_bare_pair : (K : Message → Type 0) (a b : Message) → Bare K (pair a b) → ⊥
no_bare_pair K a b (h, u) = u a b Made.pairs (Built.opens Opens.lefts h h) (Built.opens Opens.rights h h)

pub no_own_name_listed : (K : Message → Type 0) → Rest K (atom 0) → ⊥
no_own_name_listed K (h, u, z) = z refl

-- ---- lists

-- A variable's entry is no variable's number, its own least of all.
pub no_variable_as_entry : (T : Table) (n v w : ℕ) → n ≤ 128 → T v ≡ VA → T w ≡ VA → w < n → Entry T n v w → ⊥
no_variable_as_entry T n v w small e i lt (Entry.bound _ _ s) = s i
no_variable_as_entry T n v w small e i lt (Entry.own _ x) = omega arith
no_variable_as_entry T n v w small e i lt (Entry.itself s _) = s e

pub no_own_number : (T : Table) (n v : ℕ) → n ≤ 128 → T v ≡ VA → v < n → Entry T n v v → ⊥
no_own_number T n v small e = no_variable_as_entry T n v v small e e

-- Nor is it a number beyond the cells, but for 255.
pub no_entry_beyond : (T : Table) (n v x : ℕ) → T v ≡ VA → n ≤ x → (x ≡ 255 → ⊥) → Entry T n v x → ⊥
no_entry_beyond T n v x e big ne (Entry.bound _ lt _) = omega arith
no_entry_beyond T n v x e big ne (Entry.own _ i) = ne i
no_entry_beyond T n v x e big ne (Entry.itself s _) = s e

pub no_254 : (T : Table) (n v : ℕ) → n ≤ 128 → T v ≡ VA → Entry T n v 254 → ⊥
no_254 T n v small e = no_entry_beyond T n v 254 e (omega arith) (λ i. omega arith)

-- A cell that is no variable keeps its number.
pub no_entry_moved : (T : Table) (n c x : ℕ) → (T c ≡ VA → ⊥) → (x ≡ c → ⊥) → Entry T n c x → ⊥
no_entry_moved T n c x s ne (Entry.bound e _ _) = s e
no_entry_moved T n c x s ne (Entry.own e _) = s e
no_entry_moved T n c x s ne (Entry.itself _ e) = ne e

no_part_of_variable : {k : Cell} {d : ℕ} → k ≡ VA → Part k d → ⊥
no_part_of_variable {k} {d} e p = never (subst (λ k. Part k d) e p)
  where
    never : Part VA d → ⊥
    never h = elim h [ ]

-- Following a list that binds a variable to a cell of which it is a part does not end.
pub no_round : (T : Table) (L : ℕ → ℕ) (v : ℕ) → T v ≡ VA → Part (T (L v)) v → Ends T L v → ⊥
no_round T L v e p (Ends.free _ i) = no_part_of_variable e (subst (λ c. Part (T c) v) i p)
no_round T L v e p (Ends.bound _ (Ends.free i _)) = no_part_of_variable i p
no_round T L v e p (Ends.bound _ (Ends.bound i _)) = no_part_of_variable i p
no_round T L v e p (Ends.bound _ (Ends.cell _ parts)) = no_round T L v e p (parts v p)
no_round T L v e p (Ends.cell s _) = s e

-- Nor is such a value list right.
pub no_right_round : (T : Table) (ev : Run) (L : ℕ → ℕ) (v : ℕ) → T v ≡ VA → Part (T (L v)) v → RightList T ev L → ⊥
no_right_round T ev L v e p (m, reads, equal, right) = no_message_in_itself (part_held (m (L v)) m p) (subst (λ x. Inside x (m v)) (equal v e ∙ reads (L v)) whole)

-- A right list and "no" exclude one another.
pub no_list_and_none : (T : Table) (ev : Run) (L : ℕ → ℕ) → Lower T → RightList T ev L → ((ρ : ℕ → Message) → RightValues T ev ρ → ⊥) → ⊥
no_list_and_none T ev L low list never = let (ρ, right) = list_values T ev L low list in never ρ right

-- ---- files

-- A byte after EN is refused.
pub no_byte_after_end : (b : ℕ) (f : File) → read_file (mark Kind.End ++ (b ∷ [])) ≡ accepted f → ⊥
unfolding read_file read_from check check_kind kind_of any_of variables
no_byte_after_end b f e = clash (cc)

-- A cell after an event is refused; so is a cell that is its own part.
pub no_late_cell : (f : File) → read_file (mark Kind.Variable ++ mark Kind.Make ++ (0 ∷ mark Kind.Variable) ++ mark Kind.End) ≡ accepted f → ⊥
unfolding read_file read_from check check_kind kind_of any_of variables
no_late_cell f e = clash (cc)

pub no_part_of_itself : (f : File) → read_file (mark Kind.Pair ++ (0 ∷ 0 ∷ mark Kind.End)) ≡ accepted f → ⊥
unfolding read_file read_from check check_kind kind_of any_of variables
no_part_of_itself f e = clash (cc)

-- ---- one reply to every file

read_one : {r : Reading} {f g : File} → r ≡ accepted f → r ≡ accepted g → f ≡ g
read_one p q = cc

-- C is not refused.
pub no_refusal_of_C : (n at : ℕ) → read_file (bytes_of C) ≡ refused n at → ⊥
no_refusal_of_C n at e = clash (cc (read_as_lem C))

-- C is not answered with no.
pub no_no_to_C : Holds (bytes_of C gives run_no) → ⊥
unfolding shown
no_no_to_C (f, e, h) = subst NoneRight (read_one e (read_as_lem C)) h (λ c. atom 0) (record { makes = makes })
  where
    makes : Makable (run_of (its C).events) (message (table_of (its C).cells) (λ c. atom 0))
    makes p zero e = Built.own
    makes p (suc t) e = Built.own

-- D is not answered with a list.
pub no_yes_to_D : (list : List ℕ) → Holds (bytes_of D gives run_yes list) → ⊥
no_yes_to_D list (f, e, h) = none_right (subst (λ f. RightListed f list) (read_one e (read_as_lem D)) h)
  where
    none_right : RightListed (its D) list → ⊥
    none_right (form, (m, reads, equal, right)) =
        no_atom_from_nothing 5 (λ e. clash (cc)) (subst (Built (λ x. ⊥)) (reads 0) (built_more (λ x h. Memᴰ.not-nil (known_among m (its D).events 0 x h)) (right.makes 0 0 refl)))

-- Cells 0 and 1 of R are not answered with no.
pub no_no_to_R : Holds (bytes_of R gives equate_no 0 1) → ⊥
unfolding shown
no_no_to_R (f, e, h) = subst (λ f. NeverEqual f 0 1) (read_one e (read_as_lem R)) h (λ c. atom 1) refl

-- What the cells of R show where the variable shows v.
abbrev r_shows : Message → ℕ → Message
r_shows v = message (table_of (its R).cells) (λ c. v)

r_reads : (v : Message) → Reads (table_of (its R).cells) (r_shows v) (r_shows v)
unfolding shown
r_reads v zero = refl
r_reads v (suc zero) = refl
r_reads v (suc (suc zero)) = refl
r_reads v (suc (suc (suc c))) = refl

-- A list that equates the cells 0 and 2 of R holds under no values.
r_unheld : (L : ℕ → ℕ) (v : Message) → Equates (table_of (its R).cells) 0 2 L → r_shows v 0 ≡ r_shows v (L 0) → ⊥
unfolding shown
r_unheld L v equates i = no_message_in_itself Held.left (subst (λ x. Inside x v) ((equates.exact (r_shows v) (r_reads v)).1 equal) whole)
  where
    equal : (w : ℕ) → table_of (its R).cells w ≡ VA → r_shows v w ≡ r_shows v (L w)
    equal zero e = i
    equal (suc zero) e = clash (cc)
    equal (suc (suc zero)) e = clash (cc)
    equal (suc (suc (suc w))) e = clash (cc)

-- Cells 0 and 2 of R are not answered with a list.
pub no_list_to_R : (list : List ℕ) → Holds (bytes_of R gives equate_yes 0 2 list) → ⊥
unfolding shown
no_list_to_R list (f, e, h) = bound_to (get_or list 0 0) refl (subst (λ f. EquatedBy f 0 2 list) (read_one e (read_as_lem R)) h).equates
  where
    bound_to : (x : ℕ) → get_or list 0 0 ≡ x → Equates (table_of (its R).cells) 0 2 (λ v. get_or list v v) → ⊥
    bound_to zero e equates = r_unheld (λ v. get_or list v v) (atom 0) equates (subst (λ x. r_shows (atom 0) 0 ≡ r_shows (atom 0) x) (sym e) refl)
    bound_to (suc zero) e equates = r_unheld (λ v. get_or list v v) (atom 1) equates (subst (λ x. r_shows (atom 1) 0 ≡ r_shows (atom 1) x) (sym e) refl)
    bound_to (suc (suc zero)) e equates =
        no_round (table_of (its R).cells) (λ v. get_or list v v) 0 refl (subst (λ x. Part (table_of (its R).cells x) 0) (sym e) Part.in_left) (equates.ends 0)
    bound_to (suc (suc (suc x))) e equates = r_unheld (λ v. get_or list v v) (atom 0) equates (subst (λ x. r_shows (atom 0) 0 ≡ r_shows (atom 0) x) (sym e) refl)

-- An equating list names cells of the file: for a variable and an atom, 200 is no entry, though under any values it shows what the atom shows.
pub no_entry_beyond_the_cells : EquatedBy (record { cells = VA ∷ AT 0 ∷ []; events = [] }) 0 1 (200 ∷ 1 ∷ []) → ⊥
no_entry_beyond_the_cells w = let h : 200 < 2 = w.cells 0 (omega arith) in omega arith
