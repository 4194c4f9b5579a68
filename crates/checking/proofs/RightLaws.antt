-- When a list in good form is right, by the classes of the table in which each variable with the entry 255 is his own name.
use mathlib.Core.Path.{◌≡◌, refl, sym, ◌∙◌, ap, subst}
use mathlib.Core.Bool.{true, false}
use mathlib.Core.List.{List}
use mathlib.Core.Logic.{◌↔◌, inl, inr}
use Prim.Native.Nat.{ℕ, suc, ◌≤◌, ◌<◌}
use native.Mathlib.Omega.{arith}
use native.Mathlib.Decide.{dec_lt}
use lib.ListN.{get_or, get_or-eq_default}
use Rattle.model.specs.Message.{Message, atom, Built}
use Rattle.model.specs.Case.{Cell, AT, VA, ONE, TWO, Table, Run, look, Reads, Part, Known, Right}
use Rattle.model.specs.Values.{Entry, bound, own, itself, Form, RightList}
use Rattle.model.specs.Stored.{table_in}
use Rattle.model.proofs.Finite.{eq?}
use Rattle.model.proofs.Read.{clash, var?}
use Rattle.model.proofs.Rows.{no_part}
use Rattle.model.proofs.Stored.{cell_own, cell_other}
use Rattle.theory.specs.Cells.{TableWords, class_at}
use Rattle.theory.specs.Classes.{Alike, Sat}
use Rattle.theory.specs.Level.{Mark, built}
use Rattle.theory.proofs.Level.{class_reads}
use Rattle.theory.proofs.Rows.{rows_formed, rows_var}
use Rattle.theory.proofs.Twins.{shows_apart}
use Rattle.std.specs.Prelude.{None}
use Rattle.classes.specs.Kept.{Solved}
use Rattle.classes.specs.Upward.{Raised}
use Rattle.classes.proofs.SolvedLaws.{solved_met}
use Rattle.knowledge.proofs.Ground.{mark_iff_built}
use Rattle.checking.specs.Form.{entry_cell, Owned}
use Rattle.checking.specs.Follow.{Inside, Listed, Follows, Followed}
use Rattle.checking.specs.Made.{AllMade}
use Rattle.checking.proofs.FormLaws.{entry_bound}

-- ---- the table with his own name for the entries 255

entry_own : {T : Table} {n c x : ℕ} → n ≤ 128 → c < n → x ≡ 255 → Entry T n c x → T c ≡ VA
entry_own few h e (bound v l s) = v
entry_own few h e (own v i) = v
entry_own few h e (itself s i) = absurd (omega arith)

module _ (n : ℕ) (words list out : List ℕ) (w : TableWords n words) (form : Form (table_in words) n list) (o : Owned (table_in words) list (table_in out)) where
  abbrev T : Table
  T = table_in words

  abbrev T' : Table
  T' = table_in out

  -- Past the list there is no entry.
  past : (c : ℕ) → n ≤ c → get_or list c 0 ≡ 0
  past c h = get_or-eq_default list 0 {n = c} (omega (arith, form.size))

  own_var : (c : ℕ) → get_or list c 0 ≡ 255 → T c ≡ VA
  own_var c e = elim (dec_lt c n) [ yes h ↦ entry_own w.few h e (form.entries c h) | no h ↦ (let z = past c (omega arith) in absurd (omega arith)) ]

  -- A variable of the new table is one of the old, with another entry.
  var_entry : (v : ℕ) → T' v ≡ VA → get_or list v 0 ≡ 255 → ⊥
  var_entry v i e = let z = o.own v e in clash (cc)

  pub words_own : TableWords n out
  words_own = record { few = w.few; lower = lower; beyond = λ c h. o.rest c (λ e. let z = past c h in omega arith) ∙ w.beyond c h }
    where
      lower : (c d : ℕ) → Part (T' c) d → d < c
      lower c d p = elim (eq? (get_or list c 0) 255) [
        | inl e ↦ absurd (no_part (subst (λ k. Part k d) (o.own c e) p))
        | inr ne ↦ w.lower c d (subst (λ k. Part k d) (o.rest c ne) p)
      ]

  pub inside_own : Inside n (table_in out) list
  inside_own v i =
      let ne = var_entry v i in
      let u : T v ≡ VA = sym (o.rest v ne) ∙ i in
      let (l, s) = entry_bound u ne (form.entries v (rows_var w v u)) in
      (l, λ j. s (sym (o.rest (get_or list v 0) (var_entry (get_or list v 0) j)) ∙ j))

  -- The messages that follow the list are the same.
  name : T 128 ≡ AT 0
  name = w.beyond 128 w.few

  own_shown : (m : ℕ → Message) → Reads T m m → (c : ℕ) → get_or list c 0 ≡ 255 → m (entry_cell list c) ≡ atom 0
  own_shown m mr c e = ap m (cell_own (get_or list c 0) e) ∙ (mr 128 ∙ ap (look (m 128) m) name)

  pub reads_own : (m : ℕ → Message) → Reads T m m → ((v : ℕ) → T v ≡ VA → m v ≡ m (entry_cell list v)) → Reads (table_in out) m m × Listed (table_in out) list m
  reads_own m mr l = (
    λ c. elim (eq? (get_or list c 0) 255) [
      | inl e ↦ l c (own_var c e) ∙ (own_shown m mr c e ∙ sym (ap (look (m c) m) (o.own c e)))
      | inr ne ↦ mr c ∙ sym (ap (look (m c) m) (o.rest c ne))
    ],
    λ v i. (let ne = var_entry v i in l v (sym (o.rest v ne) ∙ i) ∙ ap m (cell_other (get_or list v 0) ne)),
  )

  pub own_reads : (ev : Run) (m : ℕ → Message) → Reads (table_in out) m m → Listed (table_in out) list m → Right ev m → RightList T ev (entry_cell list)
  own_reads ev m mr l right = (m, reads, at, right)
    where
      reads : Reads T m m
      reads c = elim (eq? (get_or list c 0) 255) [
        | inl e ↦ sym (ap (look (m c) m) (own_var c e))
        | inr ne ↦ mr c ∙ ap (look (m c) m) (o.rest c ne)
      ]

      at : (v : ℕ) → T v ≡ VA → m v ≡ m (entry_cell list v)
      at v i = elim (eq? (get_or list v 0) 255) [
        | inl e ↦ mr v ∙ (ap (look (m v) m) (o.own v e) ∙ sym (own_shown m reads v e))
        | inr ne ↦ l v (o.rest v ne ∙ i) ∙ sym (ap m (cell_other (get_or list v 0) ne))
      ]

-- ---- the classes of the cells that show one message

module _ (n : ℕ) (words : List ℕ) (w : TableWords n words) (rep : List ℕ) (solved : Solved n (table_in words) rep) where
  module _ (list : List ℕ) (inside : Inside n (table_in words) list) (sat : (m : ℕ → Message) → Reads (table_in words) m m → Listed (table_in words) list m ↔ Sat (class_at rep) m)
      (up : (c d : ℕ) → Alike (class_at rep) (table_in words c) (table_in words d) → class_at rep c ≡ class_at rep d) where
    abbrev U : Table
    U = table_in words

    abbrev cls : ℕ → ℕ
    cls = class_at rep

    -- A free class could be put to a message that no cell other than its own shows: so there is none.
    free_apart : (v x : ℕ) (k : Cell) (ν : Message) → U (cls v) ≡ VA → U (cls x) ≡ k → ((m : ℕ → Message) → look ν m k ≡ ν → ⊥) →
        ((m : ℕ → Message) → Reads U m m → Sat cls m → m v ≡ m x) → ⊥
    free_apart v x k ν free e apart forced =
        let (τ, g, mr, s) = solved_met n U rep solved (λ y. ν) in
        apart τ (sym (g x ∙ ap (look ν τ) e) ∙ (sym (forced τ mr s) ∙ (g v ∙ ap (look ν τ) free)))

    free_none : (v x : ℕ) (k : Cell) → U (cls v) ≡ VA → U (cls x) ≡ k → (k ≡ VA → ⊥) → ((m : ℕ → Message) → Reads U m m → Sat cls m → m v ≡ m x) → ⊥
    free_none v x (AT p) free e s forced = free_apart v x (AT p) (atom (suc p)) free e (λ m i. let z : p ≡ suc p = cc in omega arith) forced
    free_none v x VA free e s forced = s refl
    free_none v x (ONE g a) free e s forced = free_apart v x (ONE g a) (atom 0) free e (λ m i. clash (cc)) forced
    free_none v x (TWO h a b) free e s forced = free_apart v x (TWO h a b) (atom 0) free e (λ m i. clash (cc)) forced

    bound_class : (c : ℕ) → U (cls c) ≡ VA → ⊥
    bound_class c free = elim (var? (U c)) [
      | inr s ↦ solved.kept.reps.solid c s free
      | inl v ↦ (let (l, s) = inside c v in
          free_none c (get_or list c 0) (U (cls (get_or list c 0))) free refl (solved.kept.reps.solid (get_or list c 0) s) (λ m mr t. (sat m mr).1 t c v))
    ]

    -- Cells that show one message are of one class.
    one_class : (m : ℕ → Message) → Reads U m m → Sat cls m → (c d : ℕ) → m c ≡ m d → cls c ≡ cls d
    one_class m mr s c d e =
        shows_apart (λ c. U (cls c)) cls m m (class_reads U cls m mr s) (λ c. Unit) (λ c d h p. tt)
        (λ c d h h' a. sym (solved.kept.reps.idem c) ∙ (up (cls c) (cls d) a ∙ solved.kept.reps.idem d))
        (λ y c h h' v i. absurd (bound_class y v)) c d tt tt e

    module _ (ev : Run) where
      -- So the marks are what he can build,
      mark_built : (m : ℕ → Message) → Reads U m m → Sat cls m → (p c : ℕ) → Mark U cls ev p built c ↔ Built (Known ev m p) (m c)
      mark_built m mr s p c =
          mark_iff_built U cls ev p (rows_formed w) solved.kept.reps.idem m mr s (λ d v. absurd (bound_class d v)) (λ d e i. inl (one_class m mr s d e i)) c

      -- and the list is right exactly if all that is to be made is marked.
      pub made_right : AllMade (table_in words) rep ev true → (m : ℕ → Message) × Reads (table_in words) m m × Listed (table_in words) list m × Right ev m
      made_right a =
          let (τ, g, mr, s) = solved_met n U rep solved (λ y. atom 0) in
          (τ, mr, (sat τ mr).1 s, record { makes = λ p t e. (mark_built τ mr s p t).0 (a.yes refl p t e) })

      pub made_wrong : AllMade (table_in words) rep ev false → (m : ℕ → Message) → Reads (table_in words) m m → Listed (table_in words) list m → Right ev m → ⊥
      made_wrong a m mr l right =
          let (p, t, e, no_mark) = a.no refl in
          no_mark ((mark_built m mr ((sat m mr).0 l) p t).1 (right.makes p t e))

-- ---- the answer

module _ (n : ℕ) (words list out : List ℕ) (w : TableWords n words) (form : Form (table_in words) n list) (o : Owned (table_in words) list (table_in out)) (ev : Run) where
  -- A list that comes round.
  pub right_round : Follows n (table_in out) list None → RightList (table_in words) ev (entry_cell list) → ⊥
  right_round none (m, mr, l, right) = let (mr', l') = reads_own n words list out w form o m mr l in none m mr' l'

  module _ (classes : List ℕ) (f : Followed n (table_in out) list classes) (rep : List ℕ) (u : Raised n (table_in out) classes rep) where
    abbrev Y : Table
    Y = table_in out

    met : (m : ℕ → Message) → Reads Y m m → Listed Y list m ↔ Sat (class_at rep) m
    met m mr = (λ l. (u.sat m mr).0 ((f.sat m mr).0 l), λ s. (f.sat m mr).1 ((u.sat m mr).1 s))

    pub right_yes : AllMade (table_in out) rep ev true → RightList (table_in words) ev (entry_cell list)
    right_yes a =
        let (m, mr, l, right) = made_right n out (words_own n words list out w form o) rep u.solved list (inside_own n words list out w form o) met u.up ev a in
        own_reads n words list out w form o ev m mr l right

    pub right_no : AllMade (table_in out) rep ev false → RightList (table_in words) ev (entry_cell list) → ⊥
    right_no a (m, mr, l, right) =
        let (mr', l') = reads_own n words list out w form o m mr l in
        made_wrong n out (words_own n words list out w form o) rep u.solved list (inside_own n words list out w form o) met u.up ev a m mr' l' right
