-- Each claim of the list of starred files holds: file by file, over what its bytes are read as.
use mathlib.Core.Path.{◌≡◌, refl, sym, ◌∙◌, subst}
use mathlib.Core.Logic.{inl, inr}
use mathlib.Core.List.Memᴰ
use mathlib.Core.List.{List, [], ◌∷◌, Memᴰ}
use mathlib.Core.Option.{some}
use Prim.Native.Nat.{ℕ, zero, suc, ◌<◌}
use borrow.Author.Tests.{ne_eqb}
use lib.ListN.{get_or}
use lib.Dec.{lit<}
use native.Mathlib.Omega.{arith}
use Rattle.model.specs.Message.{Message, atom, one, two, pair, seal, Made, Opens, Built, Held}
use Rattle.model.specs.Case.{AT, VA, PR, SE, Event, MK, LN, File, table_of, run_of, Reads, shown, message, Part, Known, Makable, Right, Ground, Lower}
use Rattle.model.specs.Values.{cell_of, Entry, Ends}
use Rattle.model.specs.Reduce.{Rest, Inside, whole, deeper, height, key, Lists, Rising, Reduces}
use Rattle.model.specs.Format.{read_file, read_from, check, check_kind, kind_of, any_of, variables, Reading, refused, accepted, variable_from, joined}
use Rattle.model.proofs.Steps.{Comp, built_more, made_atom, held_atom}
use Rattle.model.proofs.Read.{clash}
use Rattle.model.proofs.Composed.{Shut, name, sealed, shut_built, comp_atom, comp_pair, comp_seal, Among, known_among, heard_among, rest_listed, listed_rest}
use Rattle.model.specs.Replies.{RightListed, NoneRight, EquatedBy, NeverEqual, messages_of, HeardOf, Marked, set, unset, MarkList, ReducedTo}
use Rattle.model.proofs.Claims.{AlwaysSame, AlwaysListed, Holds}
use Rattle.model.proofs.Claims.{Letter, A, B, C, D, E, F, G, H, I, J, K, K', K'', L, M, R, bytes_of, starred, All}

-- ---- as what they are read

abbrev pub read_as : Letter → Reading
read_as A = refused 1 0
read_as B = accepted (record { cells = []; events = [] })
read_as C = accepted (record { cells = AT 0 ∷ []; events = MK 0 ∷ [] })
read_as D = accepted (record { cells = AT 5 ∷ []; events = MK 0 ∷ [] })
read_as E = accepted (record { cells = AT 1 ∷ AT 2 ∷ SE 1 0 ∷ VA ∷ SE 3 0 ∷ []; events = LN 2 ∷ MK 4 ∷ [] })
read_as F = accepted (record { cells = AT 1 ∷ AT 2 ∷ SE 1 0 ∷ VA ∷ SE 3 0 ∷ []; events = LN 2 ∷ LN 0 ∷ MK 1 ∷ [] })
read_as G = accepted (record { cells = AT 1 ∷ AT 2 ∷ SE 1 0 ∷ VA ∷ SE 3 0 ∷ []; events = LN 2 ∷ MK 1 ∷ LN 0 ∷ [] })
read_as H = accepted (record { cells = AT 1 ∷ AT 2 ∷ SE 1 0 ∷ VA ∷ SE 3 0 ∷ PR 3 4 ∷ []; events = LN 2 ∷ MK 5 ∷ [] })
read_as I = accepted (record { cells = AT 2 ∷ VA ∷ SE 0 1 ∷ []; events = MK 1 ∷ LN 2 ∷ MK 0 ∷ [] })
read_as J = refused 6 2
read_as K = accepted (record { cells = AT 7 ∷ AT 3 ∷ PR 0 1 ∷ []; events = LN 2 ∷ [] })
read_as K' = accepted (record { cells = AT 3 ∷ AT 7 ∷ SE 0 1 ∷ []; events = LN 1 ∷ LN 2 ∷ [] })
read_as K'' = accepted (record { cells = AT 3 ∷ AT 7 ∷ []; events = LN 0 ∷ LN 1 ∷ [] })
read_as L = accepted (record { cells = AT 0 ∷ AT 7 ∷ SE 0 1 ∷ []; events = LN 2 ∷ [] })
read_as M = accepted (record { cells = AT 1 ∷ AT 2 ∷ SE 0 1 ∷ SE 1 0 ∷ []; events = LN 2 ∷ LN 3 ∷ [] })
read_as R = accepted (record { cells = VA ∷ AT 1 ∷ PR 0 1 ∷ []; events = [] })

pub read_as_lem : (x : Letter) → read_file (bytes_of x) ≡ read_as x
unfolding read_file read_from check check_kind kind_of any_of variables
read_as_lem A = refl
read_as_lem B = refl
read_as_lem C = refl
read_as_lem D = refl
read_as_lem E = refl
read_as_lem F = refl
read_as_lem G = refl
read_as_lem H = refl
read_as_lem I = refl
read_as_lem J = refl
read_as_lem K = refl
read_as_lem K' = refl
read_as_lem K'' = refl
read_as_lem L = refl
read_as_lem M = refl
read_as_lem R = refl

-- The file that was accepted; for a refused one none.
abbrev pub contents : Reading → File
contents (refused n at) = record { cells = []; events = [] }
contents (accepted f) = f

abbrev pub its : Letter → File
its x = contents (read_as x)

-- ---- run: yes

-- An MK at a position is the one that stands there.
stands : (P : ℕ → Type 0) {c t : ℕ} → some (MK c) ≡ some (MK t) → P c → P t
stands P e h = subst P (cc) h

b_yes : RightListed (its B) []
b_yes = (record { size = refl; entries = λ c lt. absurd (omega arith) }, ((λ c. atom 0), (λ c. refl), (λ v e. refl), record { makes = λ p t e. clash (cc) }))

c_yes : RightListed (its C) (0 ∷ [])
c_yes = (record { size = refl; entries = entries }, ((λ c. atom 0), reads, (λ v e. refl), record { makes = λ p t e. Built.own }))
  where
    entries : (c : ℕ) → c < 1 → Entry (table_of (its C).cells) 1 c (get_or (0 ∷ []) c 0)
    entries zero lt = Entry.itself (λ e. clash (cc)) refl
    entries (suc c) lt = absurd (omega arith)

    reads : Reads (table_of (its C).cells) (λ c. atom 0) (λ c. atom 0)
    reads zero = refl
    reads (suc c) = refl

-- The entries of a list for the cells of E and F, with x for the variable 3.
e_entries : (x c : ℕ) → Entry (table_of (its E).cells) 5 3 x → c < 5 → Entry (table_of (its E).cells) 5 c (get_or (0 ∷ 1 ∷ 2 ∷ x ∷ 4 ∷ []) c 0)
e_entries x zero h lt = Entry.itself (λ e. clash (cc)) refl
e_entries x (suc zero) h lt = Entry.itself (λ e. clash (cc)) refl
e_entries x (suc (suc zero)) h lt = Entry.itself (λ e. clash (cc)) refl
e_entries x (suc (suc (suc zero))) h lt = h
e_entries x (suc (suc (suc (suc zero)))) h lt = Entry.itself (λ e. clash (cc)) refl
e_entries x (suc (suc (suc (suc (suc c))))) h lt = absurd (omega arith)

-- What they show where the variable shows v.
abbrev e_shows : Message → ℕ → Message
e_shows v = message (table_of (its E).cells) (λ c. v)

e_reads : (v : Message) → Reads (table_of (its E).cells) (e_shows v) (e_shows v)
unfolding shown
e_reads v zero = refl
e_reads v (suc zero) = refl
e_reads v (suc (suc zero)) = refl
e_reads v (suc (suc (suc zero))) = refl
e_reads v (suc (suc (suc (suc zero)))) = refl
e_reads v (suc (suc (suc (suc (suc c))))) = refl

-- The variable of E and F is cell 3.
e_variable : (P : ℕ → Type 0) (v : ℕ) → P 3 → table_of (its E).cells v ≡ VA → P v
e_variable P zero h e = clash (cc)
e_variable P (suc zero) h e = clash (cc)
e_variable P (suc (suc zero)) h e = clash (cc)
e_variable P (suc (suc (suc zero))) h e = h
e_variable P (suc (suc (suc (suc zero)))) h e = clash (cc)
e_variable P (suc (suc (suc (suc (suc v))))) h e = clash (cc)

pub e_yes : RightListed (its E) (0 ∷ 1 ∷ 2 ∷ 1 ∷ 4 ∷ [])
unfolding shown
e_yes = (
  record { size = refl; entries = λ c. e_entries 1 c (Entry.bound refl (omega arith) (λ e. clash (cc))) },
  (e_shows (atom 2), e_reads (atom 2), (λ v. e_variable (λ v. e_shows (atom 2) v ≡ e_shows (atom 2) (cell_of (get_or (0 ∷ 1 ∷ 2 ∷ 1 ∷ 4 ∷ []) v 0))) v refl), record { makes = makes }),
)
  where
    makes : Makable (run_of (its E).events) (e_shows (atom 2))
    makes zero t e = clash (cc)
    makes (suc zero) t e = stands (λ t. Built (Known (run_of (its E).events) (e_shows (atom 2)) 1) (e_shows (atom 2) t)) e (Built.known (2, (0, omega arith, refl), refl))
    makes (suc (suc p)) t e = clash (cc)

f_yes : RightListed (its F) (0 ∷ 1 ∷ 2 ∷ 255 ∷ 4 ∷ [])
unfolding shown
f_yes = (
  record { size = refl; entries = λ c. e_entries 255 c (Entry.own refl refl) },
  (e_shows (atom 0), e_reads (atom 0), (λ v. e_variable (λ v. e_shows (atom 0) v ≡ e_shows (atom 0) (cell_of (get_or (0 ∷ 1 ∷ 2 ∷ 255 ∷ 4 ∷ []) v 0))) v refl), record { makes = makes }),
)
  where
    makes : Makable (run_of (its F).events) (e_shows (atom 0))
    makes zero t e = clash (cc)
    makes (suc zero) t e = clash (cc)
    makes (suc (suc zero)) t e =
        stands (λ t. Built (Known (run_of (its F).events) (e_shows (atom 0)) 2) (e_shows (atom 0) t)) e
        (Built.opens {k = atom 1} Opens.bodies (Built.known (2, (0, omega arith, refl), refl)) (Built.known (0, (1, omega arith, refl), refl)))
    makes (suc (suc (suc p))) t e = clash (cc)

i_yes : RightListed (its I) (0 ∷ 255 ∷ 2 ∷ [])
unfolding shown
i_yes = (record { size = refl; entries = entries }, (messages_of (its I), reads, equal, record { makes = makes }))
  where
    entries : (c : ℕ) → c < 3 → Entry (table_of (its I).cells) 3 c (get_or (0 ∷ 255 ∷ 2 ∷ []) c 0)
    entries zero lt = Entry.itself (λ e. clash (cc)) refl
    entries (suc zero) lt = Entry.own refl refl
    entries (suc (suc zero)) lt = Entry.itself (λ e. clash (cc)) refl
    entries (suc (suc (suc c))) lt = absurd (omega arith)

    reads : Reads (table_of (its I).cells) (messages_of (its I)) (messages_of (its I))
    reads zero = refl
    reads (suc zero) = refl
    reads (suc (suc zero)) = refl
    reads (suc (suc (suc c))) = refl

    equal : (v : ℕ) → table_of (its I).cells v ≡ VA → messages_of (its I) v ≡ messages_of (its I) (cell_of (get_or (0 ∷ 255 ∷ 2 ∷ []) v 0))
    equal zero e = clash (cc)
    equal (suc zero) e = refl
    equal (suc (suc zero)) e = clash (cc)
    equal (suc (suc (suc v))) e = clash (cc)

    makes : Makable (run_of (its I).events) (messages_of (its I))
    makes zero t e = stands (λ t. Built (Known (run_of (its I).events) (messages_of (its I)) 0) (messages_of (its I) t)) e Built.own
    makes (suc zero) t e = clash (cc)
    makes (suc (suc zero)) t e =
        stands (λ t. Built (Known (run_of (its I).events) (messages_of (its I)) 2) (messages_of (its I) t)) e
        (Built.opens {k = atom 0} Opens.bodies (Built.known (2, (1, omega arith, refl), refl)) Built.own)
    makes (suc (suc (suc p))) t e = clash (cc)

-- ---- run: no

-- An entry below 255 names its own cell.
cell_of_below : (x : ℕ) → x < 255 → cell_of x ≡ x
cell_of_below x lt = rw (ne_eqb x 255 (λ e. omega arith))

pub d_no : NoneRight (its D)
unfolding shown
d_no ρ right = elim (comp_atom (shut_built (λ x h. absurd (Memᴰ.not-nil h)) (built_more (known_among (message (table_of (its D).cells) ρ) (its D).events 0) (right.makes 0 0 refl)))) [
  | inl e ↦ clash (cc)
  | inr h ↦ Memᴰ.not-nil h
]

-- The one message that is known at the MK of E, G and H.
abbrev e_known : Message → Type 0
e_known = Among (seal (atom 2) (atom 1) ∷ [])

e_no_name : (n : ℕ) → (n ≡ 0 → ⊥) → Comp e_known (atom n) → ⊥
e_no_name n ne p = elim (comp_atom p) [ inl e ↦ ne e | inr h ↦ (let e = Memᴰ.eq_of_singleton h in clash (cc)) ]

-- So of that message he only composes.
e_composed : (m : ℕ → Message) (events : List Event) (x : Message) → m 2 ≡ seal (atom 2) (atom 1) → Built (Known (run_of (LN 2 ∷ events)) m 1) x → Comp e_known x
e_composed m events x i b = shut_built shut (built_more (λ x h. subst (λ y. Among (y ∷ []) x) i (known_among m (LN 2 ∷ events) 1 x h)) b)
  where
    shut : (x : Message) → e_known x → Shut e_known x
    shut x h = subst (Shut e_known) (sym (Memᴰ.eq_of_singleton h)) (sealed (λ e. clash (cc)) (λ h. let e = Memᴰ.eq_of_singleton h in clash (cc)))

-- The MK of E lets the variable show atom 2 alone.
e_sole : (m : ℕ → Message) → m 2 ≡ seal (atom 2) (atom 1) → m 4 ≡ seal (m 3) (atom 1) → Right (run_of (its E).events) m → m 3 ≡ atom 2
e_sole m i j right = elim (comp_seal (subst (Comp e_known) j (e_composed m (MK 4 ∷ []) (m 4) i (right.makes 1 4 refl)))) [
  | inl h ↦ (let e = Memᴰ.eq_of_singleton h in cc)
  | inr h ↦ absurd (e_no_name 1 (λ e. clash (cc)) h.1)
]

e_only : AlwaysSame (its E) 3 1
unfolding shown
e_only ρ right = e_sole (message (table_of (its E).cells) ρ) refl refl right

-- Of the cells that an entry may name, cell 1 alone shows atom 2.
pub e_entry : AlwaysListed (its E) 3 1
e_entry list (form, (m, reads, equal, right)) = named (get_or list 3 0) (form.entries 3 (omega arith)) (sym (equal 3 refl) ∙ e_sole m (cc (reads 2, reads 1, reads 0)) (cc (reads 4, reads 0)) right)
  where
    below : (x : ℕ) → x < 5 → (table_of (its E).cells x ≡ VA → ⊥) → m x ≡ atom 2 → x ≡ 1
    below zero lt s e = clash (cc (reads 0))
    below (suc zero) lt s e = refl
    below (suc (suc zero)) lt s e = clash (cc (reads 2))
    below (suc (suc (suc zero))) lt s e = absurd (s refl)
    below (suc (suc (suc (suc zero)))) lt s e = clash (cc (reads 4))
    below (suc (suc (suc (suc (suc x))))) lt s e = absurd (omega arith)

    named : (x : ℕ) → Entry (table_of (its E).cells) 5 3 x → m (cell_of x) ≡ atom 2 → x ≡ 1
    named x (Entry.bound _ lt s) e = below x lt s (subst (λ y. m y ≡ atom 2) (cell_of_below x (omega arith)) e)
    named x (Entry.own _ i) e = clash (cc (reads 128, subst (λ x. m (cell_of x) ≡ atom 2) i e))
    named x (Entry.itself s _) e = absurd (s refl)

g_no : NoneRight (its G)
unfolding shown
g_no ρ right = e_no_name 2 (λ e. clash (cc)) (e_composed (message (table_of (its G).cells) ρ) (MK 1 ∷ LN 0 ∷ []) (atom 2) refl (right.makes 1 1 refl))

h_no : NoneRight (its H)
unfolding shown
h_no ρ right = elim (comp_pair (e_composed (message (table_of (its H).cells) ρ) (MK 5 ∷ []) (pair (ρ 3) (seal (ρ 3) (atom 1))) refl (right.makes 1 5 refl))) [
  | inl h ↦ (let e = Memᴰ.eq_of_singleton h in clash (cc))
  | inr h ↦ elim (comp_seal h.1) [
    | inl i ↦ (let e = Memᴰ.eq_of_singleton i in let v : ρ 3 ≡ atom 2 = cc in e_no_name 2 (λ e. clash (cc)) (subst (Comp e_known) v h.0))
    | inr i ↦ e_no_name 1 (λ e. clash (cc)) i.1
  ]
]

-- The first MK of I asks for what he builds from nothing.
i_entry : AlwaysListed (its I) 1 255
i_entry list (form, (m, reads, equal, right)) = named (get_or list 1 0) (form.entries 1 (omega arith)) (subst (Comp (Among [])) (equal 1 refl) nothing)
  where
    nothing : Comp (Among []) (m 1)
    nothing = shut_built (λ x h. absurd (Memᴰ.not-nil h)) (built_more (known_among m (its I).events 0) (right.makes 0 1 refl))

    no_name : Comp (Among []) (atom 2) → ⊥
    no_name p = elim (comp_atom p) [ inl e ↦ clash (cc) | inr h ↦ Memᴰ.not-nil h ]

    below : (x : ℕ) → x < 3 → (table_of (its I).cells x ≡ VA → ⊥) → Comp (Among []) (m x) → ⊥
    below zero lt s p = no_name (subst (Comp (Among [])) (reads 0) p)
    below (suc zero) lt s p = s refl
    below (suc (suc zero)) lt s p = elim (comp_seal (subst (Comp (Among [])) (reads 2) p)) [ inl h ↦ Memᴰ.not-nil h | inr h ↦ no_name (subst (Comp (Among [])) (reads 0) h.0) ]
    below (suc (suc (suc x))) lt s p = omega arith

    named : (x : ℕ) → Entry (table_of (its I).cells) 3 1 x → Comp (Among []) (m (cell_of x)) → x ≡ 255
    named x (Entry.bound _ lt s) p = absurd (below x lt s (subst (λ y. Comp (Among []) (m y)) (cell_of_below x (omega arith)) p))
    named x (Entry.own _ i) p = i
    named x (Entry.itself s _) p = absurd (s refl)

-- ---- equating

r_no : NeverEqual (its R) 0 2
unfolding shown
r_no ρ e = grows (ρ 0) (atom 1) e
  where
    grows : (x y : Message) → x ≡ pair x y → ⊥
    grows (atom n) y e = clash (cc)
    grows (one g a) y e = clash (cc)
    grows (two h a b) y e = grows a b (cc)

r_yes : EquatedBy (its R) 0 1 (1 ∷ 1 ∷ 2 ∷ [])
r_yes = record { size = refl; cells = inside; own = fixed; equates = record { exact = λ m reads. ((λ e. holds m e), (λ h. h 0 refl)); ends = ends } }
  where
    inside : (c : ℕ) → c < 3 → get_or (1 ∷ 1 ∷ 2 ∷ []) c c < 3
    inside zero lt = omega arith
    inside (suc zero) lt = omega arith
    inside (suc (suc zero)) lt = omega arith
    inside (suc (suc (suc c))) lt = absurd (omega arith)

    holds : (m : ℕ → Message) → m 0 ≡ m 1 → (v : ℕ) → table_of (its R).cells v ≡ VA → m v ≡ m (get_or (1 ∷ 1 ∷ 2 ∷ []) v v)
    holds m e zero i = e
    holds m e (suc zero) i = clash (cc)
    holds m e (suc (suc zero)) i = clash (cc)
    holds m e (suc (suc (suc v))) i = clash (cc)

    fixed : (c : ℕ) → (table_of (its R).cells c ≡ VA → ⊥) → get_or (1 ∷ 1 ∷ 2 ∷ []) c c ≡ c
    fixed zero s = absurd (s refl)
    fixed (suc zero) s = refl
    fixed (suc (suc zero)) s = refl
    fixed (suc (suc (suc c))) s = refl

    first : Ends (table_of (its R).cells) (λ v. get_or (1 ∷ 1 ∷ 2 ∷ []) v v) 1
    first = Ends.cell {c = 1} (λ e. clash (cc)) (λ d h. elim h [ ])

    parts : (d : ℕ) → Part (PR 0 1) d → Ends (table_of (its R).cells) (λ v. get_or (1 ∷ 1 ∷ 2 ∷ []) v v) d
    parts d Part.in_left = Ends.bound refl first
    parts d Part.in_right = first

    ends : (c : ℕ) → Ends (table_of (its R).cells) (λ v. get_or (1 ∷ 1 ∷ 2 ∷ []) v v) c
    ends zero = Ends.bound refl first
    ends (suc zero) = first
    ends (suc (suc zero)) = Ends.cell {c = 2} (λ e. clash (cc)) parts
    ends (suc (suc (suc c))) = Ends.cell {c = suc (suc (suc c))} (λ e. clash (cc)) (λ d h. elim h [ ])

-- ---- build marks

-- The two messages that M learns.
abbrev m_heard : Message → Type 0
m_heard = Among (seal (atom 1) (atom 2) ∷ seal (atom 2) (atom 1) ∷ [])

m_no_name : (n : ℕ) → m_heard (atom n) → ⊥
m_no_name n (Memᴰ.head e) = clash (cc)
m_no_name n (Memᴰ.tail h) = (let e = Memᴰ.eq_of_singleton h in clash (cc))

m_shut : (x : Message) → m_heard x → Shut m_heard x
m_shut x (Memᴰ.head e) = subst (Shut m_heard) (sym e) (sealed (λ e. clash (cc)) (m_no_name 2))
m_shut x (Memᴰ.tail h) = subst (Shut m_heard) (sym (Memᴰ.eq_of_singleton h)) (sealed (λ e. clash (cc)) (m_no_name 1))

m_unbuilt : (n : ℕ) → (n ≡ 0 → ⊥) → Built (HeardOf (its M)) (atom n) → ⊥
unfolding shown
m_unbuilt n ne b = elim (comp_atom (shut_built m_shut (built_more (heard_among (messages_of (its M)) (its M).events) b))) [ inl e ↦ ne e | inr h ↦ m_no_name n h ]

m_marks : MarkList (its M) (0 ∷ 0 ∷ 1 ∷ 1 ∷ [])
unfolding shown variable_from
m_marks = (refl, refl, marked)
  where
    marked : (c : ℕ) → c < 4 → Marked (Built (HeardOf (its M)) (messages_of (its M) c)) (get_or (0 ∷ 0 ∷ 1 ∷ 1 ∷ []) c 0)
    marked zero lt = unset (m_unbuilt 1 (λ e. clash (cc)))
    marked (suc zero) lt = unset (m_unbuilt 2 (λ e. clash (cc)))
    marked (suc (suc zero)) lt = set (Built.known (2, 0, refl, refl))
    marked (suc (suc (suc zero))) lt = set (Built.known (3, 1, refl, refl))
    marked (suc (suc (suc (suc c)))) lt = absurd (omega arith)

-- ---- reducing

b_reduced : ReducedTo (its B) (bytes_of B)
unfolding shown variable_from joined
b_reduced = (refl, its B, [], refl, refl, record { cells = cells; rises = Rising.none; names = λ c. ((λ h. absurd (Memᴰ.not-nil h)), (λ (lt, r). absurd (omega arith))) })
  where
    nothing : (x : Message) → Rest (HeardOf (its B)) x → ⊥
    nothing x r = Memᴰ.not-nil (rest_listed (HeardOf (its B)) (Among []) (λ x (c, p, e, i). clash (cc)) (λ x h. absurd (Memᴰ.not-nil h)) (λ x h. absurd (Memᴰ.not-nil h)) x r)

    cells : Lists (table_of []) (messages_of (its B)) 0 (λ x. (y : Message) × Rest (HeardOf (its B)) y × Inside x y)
    cells = record {
      reads = λ c. refl;
      lower = λ c d h. elim h [ ];
      solid = λ c lt. absurd (omega arith);
      order = λ c d lt below. absurd (omega arith);
      all = λ x (y, r, i). absurd (nothing y r);
      only = λ c lt. absurd (omega arith);
    }

-- The bare messages of K and K'.
abbrev k_bare : Message → Type 0
k_bare = Among (atom 3 ∷ atom 7 ∷ [])

k_names : (P : Message → Type 0) (x : Message) → k_bare x → P (atom 3) → P (atom 7) → P x
k_names P x (Memᴰ.head e) p q = subst P (sym e) p
k_names P x (Memᴰ.tail h) p q = subst P (sym (Memᴰ.eq_of_singleton h)) q

-- In an atom stands it alone.
inside_atom : {n : ℕ} {x : Message} → Inside x (atom n) → x ≡ atom n
inside_atom whole = refl
inside_atom (deeper h i) = absurd (held_atom h)

-- What gives these two and is given by them has the reduced file K''.
module _ (Z : Message → Type 0) (there : (x : Message) → Z x → Built k_bare x) (third : Built Z (atom 3)) (seventh : Built Z (atom 7)) where
  k_rest : (x : Message) → Rest Z x → k_bare x
  k_rest = rest_listed Z k_bare there (λ x h. k_names (Built Z) x h third seventh) (λ x h. k_names (Shut k_bare) x h name name)

  rest_k : (n : ℕ) → (n ≡ 0 → ⊥) → k_bare (atom n) → Rest Z (atom n)
  rest_k n ne h = listed_rest Z k_bare there (λ x h. k_names (Built Z) x h third seventh) (λ x h. k_names (Shut k_bare) x h name name) (atom n) h (λ a b t. absurd (made_atom t)) (λ e. ne (cc))

  rest_3 : Rest Z (atom 3)
  rest_3 = rest_k 3 (λ e. clash (cc)) (Memᴰ.head refl)

  rest_7 : Rest Z (atom 7)
  rest_7 = rest_k 7 (λ e. clash (cc)) (Memᴰ.tail (Memᴰ.head refl))

  k_cells : Lists (table_of (its K'').cells) (messages_of (its K'')) 2 (λ x. (y : Message) × Rest Z y × Inside x y)
  unfolding shown key height
  k_cells = record { reads = reads; lower = lower; solid = solid; order = order; all = all; only = only }
    where
      reads : Ground (table_of (its K'').cells) (messages_of (its K''))
      reads zero = refl
      reads (suc zero) = refl
      reads (suc (suc c)) = refl

      lower : Lower (table_of (its K'').cells)
      lower zero d h = elim h [ ]
      lower (suc zero) d h = elim h [ ]
      lower (suc (suc c)) d h = elim h [ ]

      solid : (c : ℕ) → c < 2 → table_of (its K'').cells c ≡ VA → ⊥
      solid zero lt e = clash (cc)
      solid (suc zero) lt e = clash (cc)
      solid (suc (suc c)) lt e = clash (cc)

      order : (c d : ℕ) → c < d → d < 2 → key (height (messages_of (its K'') c)) (table_of (its K'').cells c) < key (height (messages_of (its K'') d)) (table_of (its K'').cells d)
      order zero zero lt below = absurd (omega arith)
      order zero (suc zero) lt below = lit< tt
      order zero (suc (suc d)) lt below = absurd (omega arith)
      order (suc c) d lt below = absurd (omega arith)

      all : (x : Message) → (y : Message) × Rest Z y × Inside x y → (c : ℕ) × (c < 2) × (messages_of (its K'') c ≡ x)
      all x (y, r, i) = k_names (λ y. Inside x y → (c : ℕ) × (c < 2) × (messages_of (its K'') c ≡ x)) y (k_rest y r)
          (λ i. (0, omega arith, sym (inside_atom i))) (λ i. (1, omega arith, sym (inside_atom i))) i

      only : (c : ℕ) → c < 2 → (y : Message) × Rest Z y × Inside (messages_of (its K'') c) y
      only zero lt = (atom 3, rest_3, whole)
      only (suc zero) lt = (atom 7, rest_7, whole)
      only (suc (suc c)) lt = absurd (omega arith)

  k_reduces : Reduces Z (table_of (its K'').cells) (messages_of (its K'')) 2 (0 ∷ 1 ∷ [])
  unfolding shown
  k_reduces = record {
    cells = k_cells;
    rises = Rising.more {c = 0} {l = 1 ∷ []} (λ d h. let e = Memᴰ.eq_of_singleton h in omega arith) (Rising.more (λ d h. absurd (Memᴰ.not-nil h)) Rising.none);
    names = λ c. (named c, λ h. names c h.0);
  }
    where
      named : (c : ℕ) → Memᴰ c (0 ∷ 1 ∷ []) → (c < 2) × Rest Z (messages_of (its K'') c)
      named c (Memᴰ.head e) = (omega arith, subst (λ c. Rest Z (messages_of (its K'') c)) (sym e) rest_3)
      named c (Memᴰ.tail h) = (let e = Memᴰ.eq_of_singleton h in (omega arith, subst (λ c. Rest Z (messages_of (its K'') c)) (sym e) rest_7))

      names : (c : ℕ) → c < 2 → Memᴰ c (0 ∷ 1 ∷ [])
      names zero lt = Memᴰ.head refl
      names (suc zero) lt = Memᴰ.tail (Memᴰ.head refl)
      names (suc (suc c)) lt = absurd (omega arith)

-- From the bare ones he builds the pair and the seal of the two.
k_third : Built k_bare (atom 3)
k_third = Built.known (Memᴰ.head refl)

k_seventh : Built k_bare (atom 7)
k_seventh = Built.known (Memᴰ.tail (Memᴰ.head refl))

k_reduced : ReducedTo (its K) (bytes_of K'')
unfolding shown variable_from joined
k_reduced = (refl, its K'', 0 ∷ 1 ∷ [], refl, refl, k_reduces (HeardOf (its K)) there (Built.opens Opens.rights known known) (Built.opens Opens.lefts known known))
  where
    known : Built (HeardOf (its K)) (pair (atom 7) (atom 3))
    known = Built.known (2, 0, refl, refl)

    there : (x : Message) → HeardOf (its K) x → Built k_bare x
    there x h = subst (Built k_bare) (sym (Memᴰ.eq_of_singleton (heard_among (messages_of (its K)) (its K).events x h))) (Built.makes Made.pairs k_seventh k_third)

k'_reduced : ReducedTo (its K') (bytes_of K'')
unfolding shown variable_from joined
k'_reduced = (refl, its K'', 0 ∷ 1 ∷ [], refl, refl, k_reduces (HeardOf (its K')) (λ x h. there x (heard_among (messages_of (its K')) (its K').events x h)) third seventh)
  where
    seventh : Built (HeardOf (its K')) (atom 7)
    seventh = Built.known (1, 0, refl, refl)

    third : Built (HeardOf (its K')) (atom 3)
    third = Built.opens Opens.bodies (Built.known (2, 1, refl, refl)) seventh

    there : (x : Message) → Among (atom 7 ∷ seal (atom 3) (atom 7) ∷ []) x → Built k_bare x
    there x (Memᴰ.head e) = subst (Built k_bare) (sym e) k_seventh
    there x (Memᴰ.tail h) = subst (Built k_bare) (sym (Memᴰ.eq_of_singleton h)) (Built.makes Made.seals k_third k_seventh)

-- The one bare message of L: he has neither the key nor another seal.
abbrev l_bare : Message → Type 0
l_bare = Among (seal (atom 0) (atom 7) ∷ [])

l_one : {x : Message} → l_bare x → x ≡ seal (atom 0) (atom 7)
l_one h = Memᴰ.eq_of_singleton h

l_shut : (x : Message) → l_bare x → Shut l_bare x
l_shut x h = subst (Shut l_bare) (sym (l_one h)) (sealed (λ e. clash (cc)) (λ h. let e = l_one h in clash (cc)))

l_there : (x : Message) → HeardOf (its L) x → Built l_bare x
unfolding shown
l_there x h = Built.known (heard_among (messages_of (its L)) (its L).events x h)

l_back : (x : Message) → l_bare x → Built (HeardOf (its L)) x
unfolding shown
l_back x h = subst (Built (HeardOf (its L))) (sym (l_one h)) (Built.known (2, 0, refl, refl))

l_listed : (x : Message) → Rest (HeardOf (its L)) x → x ≡ seal (atom 0) (atom 7)
l_listed x r = l_one (rest_listed (HeardOf (its L)) l_bare l_there l_back l_shut x r)

l_rest : Rest (HeardOf (its L)) (seal (atom 0) (atom 7))
l_rest = listed_rest (HeardOf (its L)) l_bare l_there l_back l_shut (seal (atom 0) (atom 7)) (Memᴰ.head refl) (λ a b. uncomposed) (λ e. clash (cc))
  where
    uncomposed : {a b : Message} → Made (seal (atom 0) (atom 7)) a b → Comp l_bare a → Comp l_bare b → ⊥
    uncomposed Made.seals p q = elim (comp_atom q) [ inl e ↦ clash (cc) | inr h ↦ (let e = l_one h in clash (cc)) ]

-- What stands in it: itself, his own name, the key.
l_inside : {x : Message} (P : Message → Type 0) → P (seal (atom 0) (atom 7)) → P (atom 0) → P (atom 7) → Inside x (seal (atom 0) (atom 7)) → P x
l_inside P p q r whole = p
l_inside P p q r (deeper Held.left i) = subst P (sym (inside_atom i)) q
l_inside P p q r (deeper Held.right i) = subst P (sym (inside_atom i)) r

l_cells : Lists (table_of (its L).cells) (messages_of (its L)) 3 (λ x. (y : Message) × Rest (HeardOf (its L)) y × Inside x y)
unfolding shown key height
l_cells = record { reads = reads; lower = lower; solid = solid; order = order; all = all; only = only }
  where
    reads : Ground (table_of (its L).cells) (messages_of (its L))
    reads zero = refl
    reads (suc zero) = refl
    reads (suc (suc zero)) = refl
    reads (suc (suc (suc c))) = refl

    parts : {d : ℕ} → Part (SE 0 1) d → d < 2
    parts Part.in_left = omega arith
    parts Part.in_right = omega arith

    lower : Lower (table_of (its L).cells)
    lower zero d h = elim h [ ]
    lower (suc zero) d h = elim h [ ]
    lower (suc (suc zero)) d h = parts h
    lower (suc (suc (suc c))) d h = elim h [ ]

    solid : (c : ℕ) → c < 3 → table_of (its L).cells c ≡ VA → ⊥
    solid zero lt e = clash (cc)
    solid (suc zero) lt e = clash (cc)
    solid (suc (suc zero)) lt e = clash (cc)
    solid (suc (suc (suc c))) lt e = clash (cc)

    order : (c d : ℕ) → c < d → d < 3 → key (height (messages_of (its L) c)) (table_of (its L).cells c) < key (height (messages_of (its L) d)) (table_of (its L).cells d)
    order zero zero lt below = absurd (omega arith)
    order zero (suc zero) lt below = lit< tt
    order zero (suc (suc zero)) lt below = lit< tt
    order zero (suc (suc (suc d))) lt below = absurd (omega arith)
    order (suc zero) zero lt below = absurd (omega arith)
    order (suc zero) (suc zero) lt below = absurd (omega arith)
    order (suc zero) (suc (suc zero)) lt below = lit< tt
    order (suc zero) (suc (suc (suc d))) lt below = absurd (omega arith)
    order (suc (suc c)) d lt below = absurd (omega arith)

    all : (x : Message) → (y : Message) × Rest (HeardOf (its L)) y × Inside x y → (c : ℕ) × (c < 3) × (messages_of (its L) c ≡ x)
    all x (y, r, i) = l_inside (λ x. (c : ℕ) × (c < 3) × (messages_of (its L) c ≡ x)) (2, omega arith, refl) (0, omega arith, refl) (1, omega arith, refl) (subst (Inside x) (l_listed y r) i)

    only : (c : ℕ) → c < 3 → (y : Message) × Rest (HeardOf (its L)) y × Inside (messages_of (its L) c) y
    only zero lt = (seal (atom 0) (atom 7), l_rest, deeper Held.left whole)
    only (suc zero) lt = (seal (atom 0) (atom 7), l_rest, deeper Held.right whole)
    only (suc (suc zero)) lt = (seal (atom 0) (atom 7), l_rest, whole)
    only (suc (suc (suc c))) lt = absurd (omega arith)

l_reduced : ReducedTo (its L) (bytes_of L)
unfolding shown variable_from joined
l_reduced = (refl, its L, 2 ∷ [], refl, refl, record { cells = l_cells; rises = Rising.more (λ d h. absurd (Memᴰ.not-nil h)) Rising.none; names = λ c. (named c, λ h. names c h.0 h.1) })
  where
    named : (c : ℕ) → Memᴰ c (2 ∷ []) → (c < 3) × Rest (HeardOf (its L)) (messages_of (its L) c)
    named c h = (let e = Memᴰ.eq_of_singleton h in (omega arith, subst (λ c. Rest (HeardOf (its L)) (messages_of (its L) c)) (sym e) l_rest))

    names : (c : ℕ) → c < 3 → Rest (HeardOf (its L)) (messages_of (its L) c) → Memᴰ c (2 ∷ [])
    names zero lt r = (let e = l_listed (atom 0) r in clash (cc))
    names (suc zero) lt r = (let e = l_listed (atom 7) r in clash (cc))
    names (suc (suc zero)) lt r = Memᴰ.head refl
    names (suc (suc (suc c))) lt r = absurd (omega arith)

-- ---- all of them

infixr 30 ◌&◌
-- The first, and the rest.
◌&◌ : {X Y : Type 0} → X → Y → X × Y
x & y = (x, y)

-- Each claim of the list holds.
pub starred_hold : All Holds starred
starred_hold =
    read_as_lem A
    & (its B, read_as_lem B, b_yes)
    & (its B, read_as_lem B, b_reduced)
    & (its C, read_as_lem C, c_yes)
    & (its D, read_as_lem D, d_no)
    & refl
    & (its E, read_as_lem E, e_yes)
    & (its E, read_as_lem E, e_only)
    & (its E, read_as_lem E, e_entry)
    & (its F, read_as_lem F, f_yes)
    & (its G, read_as_lem G, g_no)
    & (its H, read_as_lem H, h_no)
    & (its I, read_as_lem I, i_yes)
    & (its I, read_as_lem I, i_entry)
    & read_as_lem J
    & (its K, read_as_lem K, k_reduced)
    & (its K', read_as_lem K', k'_reduced)
    & (its L, read_as_lem L, l_reduced)
    & (its M, read_as_lem M, m_marks)
    & (its R, read_as_lem R, r_no)
    & (its R, read_as_lem R, r_yes)
    & tt
