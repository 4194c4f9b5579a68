-- Following a list from a cell through variables and parts, where it ends, comes to one message; these messages are messages of the cells, and the list holds under them.
-- So a value list is right exactly if following it ends from every cell and the messages it comes to are right.
use mathlib.Core.Path.{◌≡◌, refl, sym, ◌∙◌, ap, subst, fun_ext}
use mathlib.Core.List.{List}
use mathlib.Core.Logic.{◌↔◌, inl, inr}
use Prim.Native.Nat.{ℕ, zero, suc, ◌≤◌, ◌<◌}
use native.Mathlib.Decide.{dec_lt}
use native.Mathlib.Omega.{arith}
use borrow.Author.Tests.{eq-eqb, ne_eqb}
use lib.ListN.{length, get_or, get_or-eq_default}
use Rattle.model.specs.Message.{Message, atom, one, two, Held}
use Rattle.model.specs.Case.{Cell, AT, VA, ONE, TWO, File, Table, Run, table_of, run_of, look, Reads, Part, in_arg, in_left, in_right, Right}
use Rattle.model.specs.Values.{cell_of, Entry, Form, RightList, Ends, free, bound, cell}
use Rattle.model.proofs.Steps.{size, held_size}
use Rattle.model.proofs.Read.{clash, part_held, var?}

-- What a cell shows, if h gives the messages of its parts.
abbrev shows : (k : Cell) → ((d : ℕ) → Part k d → Message) → Message
shows (AT n) h = atom n
shows VA h = atom 0
shows (ONE g a) h = one g (h a in_arg)
shows (TWO t l r) h = two t (h l in_left) (h r in_right)

shows_same : (k : Cell) (h h' : (d : ℕ) → Part k d → Message) → ((d : ℕ) (p : Part k d) → h d p ≡ h' d p) → shows k h ≡ shows k h'
shows_same (AT n) h h' e = refl
shows_same VA h h' e = refl
shows_same (ONE g a) h h' e = cc (e a in_arg)
shows_same (TWO t l r) h h' e = cc (e l in_left, e r in_right)

shows_look : (k : Cell) (v : Message) (h : (d : ℕ) → Part k d → Message) (m : ℕ → Message) → (k ≡ VA → ⊥) → ((d : ℕ) (p : Part k d) → h d p ≡ m d) →
    shows k h ≡ look v m k
shows_look (AT n) v h m s e = refl
shows_look VA v h m s e = absurd (s refl)
shows_look (ONE g a) v h m s e = cc (e a in_arg)
shows_look (TWO t l r) v h m s e = cc (e l in_left, e r in_right)

module _ (T : Table) (L : ℕ → ℕ) where
  -- The message to which following the list from a cell comes, each free variable put to his own name.
  pub followed : {c : ℕ} → Ends T L c → Message
  followed (free v i) = atom 0
  followed (bound v e) = followed e
  followed {c} (cell s h) = shows (T c) (λ d p. followed (h d p))

  -- From a free variable following comes to his own name,
  followed_free : (v : ℕ) → T v ≡ VA → L v ≡ v → {c : ℕ} → (e : Ends T L c) → c ≡ v → followed e ≡ atom 0
  unfolding followed
  followed_free v t i (free w j) z = refl
  followed_free v t i (bound w e) z = followed_free v t i e (ap L z ∙ i)
  followed_free v t i (cell s h) z = absurd (s (ap T z ∙ t))

  -- and by whatever steps from a cell to one message.
  followed_one : {c : ℕ} → (e e' : Ends T L c) → followed e ≡ followed e'
  unfolding followed
  followed_one {c} (free v i) e' = sym (followed_free c v i e' refl)
  followed_one {c} (bound v e) (free w i) = followed_free c v i e i
  followed_one (bound v e) (bound w e') = followed_one e e'
  followed_one (bound v e) (cell s h) = absurd (s v)
  followed_one (cell s h) (free w i) = absurd (s w)
  followed_one (cell s h) (bound w e) = absurd (s w)
  followed_one {c} (cell s h) (cell s' h') = shows_same (T c) (λ d p. followed (h d p)) (λ d p. followed (h' d p)) (λ d p. followed_one (h d p) (h' d p))

  module _ (ends : (c : ℕ) → Ends T L c) where
    -- These messages are messages of the cells,
    pub followed_reads : Reads T (λ c. followed (ends c)) (λ c. followed (ends c))
    unfolding followed
    followed_reads c = go (ends c) refl
      where
        go : (e : Ends T L c) → followed (ends c) ≡ followed e → followed (ends c) ≡ look (followed (ends c)) (λ d. followed (ends d)) (T c)
        go (free v i) z = rw v
        go (bound v e) z = rw v
        go (cell s h) z = z ∙ shows_look (T c) (followed (ends c)) (λ d p. followed (h d p)) (λ d. followed (ends d)) s (λ d p. followed_one (h d p) (ends d))

    -- and the list holds under them.
    pub followed_holds : (v : ℕ) → T v ≡ VA → followed (ends v) ≡ followed (ends (L v))
    unfolding followed
    followed_holds v t = go (ends v) refl
      where
        go : (e : Ends T L v) → followed (ends v) ≡ followed e → followed (ends v) ≡ followed (ends (L v))
        go (free w i) z = z ∙ sym (followed_free v t i (ends (L v)) i)
        go (bound w e) z = z ∙ followed_one e (ends (L v))
        go (cell s h) z = absurd (s t)

-- ---- value lists: no variable has a variable, so none is free

module _ (T : Table) (L : ℕ → ℕ) (solid : (v : ℕ) → T v ≡ VA → T (L v) ≡ VA → ⊥) where
  module _ (m : ℕ → Message) (reads : Reads T m m) (equal : (v : ℕ) → T v ≡ VA → m v ≡ m (L v)) where
    -- The messages of a right list are finite, so following it ends.
    ends_below : (n c : ℕ) → size (m c) < n → Ends T L c
    ends_below zero c h = absurd (omega arith)
    ends_below (suc n) c h = elim (var? (T c)) [
      | inr s ↦ cell s (λ d p. ends_below n d (smaller c d p h))
      | inl v ↦ bound v (cell (solid c v) (λ d p. ends_below n d (smaller (L c) d p (subst (λ x. size x < suc n) (equal c v) h))))
    ]
      where
        smaller : (c d : ℕ) → Part (T c) d → size (m c) < suc n → size (m d) < n
        smaller c d p h = let l = held_size (subst (Held (m d)) (sym (reads c)) (part_held (m c) m p)) in omega arith

    pub ends_all : (c : ℕ) → Ends T L c
    ends_all c = ends_below (suc (size (m c))) c (omega arith)

    -- They are the messages that following comes to.
    pub followed_only : {c : ℕ} → (e : Ends T L c) → m c ≡ followed T L e
    unfolding followed
    followed_only {c} (free v i) = absurd (solid c v (subst (λ d. T d ≡ VA) (sym i) v))
    followed_only {c} (bound v e) = equal c v ∙ followed_only e
    followed_only {c} (cell s h) = reads c ∙ sym (shows_look (T c) (m c) (λ d p. followed T L (h d p)) m s (λ d p. sym (followed_only (h d p))))

  -- A list is right exactly if following it ends from every cell and the messages it comes to are right.
  pub right_iff_followed : (ev : Run) → RightList T ev L ↔ ((ends : (c : ℕ) → Ends T L c) × Right ev (λ c. followed T L (ends c)))
  right_iff_followed ev = (to, λ (ends, right). ((λ c. followed T L (ends c)), followed_reads T L ends, followed_holds T L ends, right))
    where
      to : RightList T ev L → (ends : (c : ℕ) → Ends T L c) × Right ev (λ c. followed T L (ends c))
      to (m, reads, equal, right) =
          let ends = ends_all m reads equal in
          (ends, subst (Right ev) (fun_ext (λ c. followed_only m reads equal (ends c))) right)

-- No cell beyond a list of cells is a variable.
pub cells_end : (cells : List Cell) (c : ℕ) → length cells ≤ c → table_of cells c ≡ VA → ⊥
cells_end cells c h e = let z : table_of cells c ≡ AT 0 = get_or-eq_default cells (AT 0) h in clash (cc)

-- Following the value list of a file ends from every cell, and the messages it comes to are right.
abbrev pub Followed : File → List ℕ → Type 0
Followed f list =
    (ends : (c : ℕ) → Ends (table_of f.cells) (λ v. cell_of (get_or list v 0)) c)
    × Right (run_of f.events) (λ c. followed (table_of f.cells) (λ v. cell_of (get_or list v 0)) (ends c))

-- A list in good form gives no variable a variable: beyond the file's cells stands his own name.
pub form_solid : (T : Table) (n : ℕ) (list : List ℕ) → n ≤ 128 → ((c : ℕ) → n ≤ c → T c ≡ VA → ⊥) → Form T n list →
    (v : ℕ) → T v ≡ VA → T (cell_of (get_or list v 0)) ≡ VA → ⊥
form_solid T n list few beyond form v t = elim (dec_lt v n) [
  | no h ↦ absurd (beyond v (omega arith) t)
  | yes h ↦ named (get_or list v 0) (form.entries v h)
]
  where
    named : (x : ℕ) → Entry T n v x → T (cell_of x) ≡ VA → ⊥
    named x (Entry.bound _ lt s) i = s (subst (λ c. T c ≡ VA) (below x lt) i)
      where
        below : (x : ℕ) → x < n → cell_of x ≡ x
        below x lt = rw (ne_eqb x 255 (λ e. omega arith))
    named x (Entry.own _ e) i = beyond 128 few (subst (λ c. T c ≡ VA) (rw (eq-eqb x 255 e)) i)
    named x (Entry.itself s _) i = s t
