-- The loop over the event records.
use mathlib.Core.Path.{◌≡◌, refl, sym, ◌∙◌, ap, subst}
use mathlib.Core.Logic.{◌↔◌, inl, inr}
use mathlib.Core.Bool.{Bool, true, false, cond}
use mathlib.Core.List.Memᴰ
use mathlib.Core.List.{List, [], ◌∷◌, ◌++◌, Memᴰ}
use mathlib.Core.Option.{some}
use Prim.Native.Nat.{ℕ, ◌+◌, ◌-◌, ◌≤◌, ◌<◌}
use native.Mathlib.Omega.{arith}
use borrow.Author.Tests.{lt-ltb, le-ltb}
use lib.Dec.{ltb}
use lib.ListN.{length, drop, replicate, get_elem?, length-drop}
use lib.Seq.{drop-drop}
use Rattle.std.specs.Prelude.{Ok}
use Rattle.model.specs.Case as case
use Rattle.model.specs.Case.{MK, LN, Part, Within, Lower, table_of}
use Rattle.model.specs.Stored.{table_in, event_word}
use Rattle.model.specs.Format.{Record, record_at, loose, check, Checked, Reading, ended, read_from, read_file}
use Rattle.model.proofs.Fuel.{Few}
use Rattle.model.proofs.Held.{HeldBy, unheld_false, unheld_true}
use Rattle.model.proofs.Listed.{length_snoc, place_member, member_place, elem_append}
use Rattle.model.proofs.Read.{clash}
use Rattle.theory.specs.Cells.{On}
use Rattle.theory.proofs.MarkRows.{on?, no_mark}
use Rattle.cells.specs.declared.table.Table.{Table}
use Rattle.casefile.specs.declared.Row.{Row}
use Rattle.casefile.specs.Case.{stored, no_words, with_word}
use Rattle.casefile.specs.Cells.{Begun}
use Rattle.casefile.specs.Events.{Among, Found, Ended, Loose, shown, marks_after, read_as, Context}
use Rattle.casefile.proofs.ReadLaws.{read_fault, read_event, read_end, word_more}
use Rattle.casefile.proofs.WithinLaws.{within_part}

-- The file read so far: its events lie in e, the marks made are what its MK events hold, and what is left decides.
pub record EventsSoFar (base : ℕ) (file : List ℕ) (cells : List case.Cell) (at : ℕ) (e : Row) (made : List ℕ) : Type 0 where
  pub list : List case.Event
  pub run : e ≡ stored event_word list
  pub few : length list ≤ 128
  pub first : list ≡ [] → at ≡ 0
  pub held : (v : ℕ) → On made v ↔ HeldBy (table_of cells) list v
  pub left : read_from 257 (drop (base + at) file) (base + at) (record { cells = cells; events = list }) ≡ read_file file

-- Marks after one event more hold what its MK events hold, if the marks before it do.
module _ (T : case.Table) (list : List case.Event) (made made' : List ℕ) (held : (v : ℕ) → On made v ↔ HeldBy T list v) where
  held_before : (v : case.Event) (u : ℕ) → HeldBy T list u → HeldBy T (list ++ (v ∷ [])) u
  held_before v u (c, mem, w) = (c, place_member (list ++ (v ∷ [])) _ (MK c) (elem_append list (v ∷ []) _ (MK c) (member_place mem).2), w)

  closed : (u z : ℕ) → On made u → Part (T u) z → On made z
  closed u z o q = let (y, mem, i) = (held u).0 o in (held z).1 (y, mem, within_part i q)

  held_after : (v : case.Event) → marks_after T made v made' → (u : ℕ) → On made' u ↔ HeldBy T (list ++ (v ∷ [])) u
  held_after (MK c) w u = (to, from)
    where
      last : Memᴰ (MK c) (list ++ (MK c ∷ []))
      last = place_member (list ++ (MK c ∷ [])) (length list) (MK c) (seam list)
        where
          seam : (l : List case.Event) → get_elem? (l ++ (MK c ∷ [])) (length l) ≡ some (MK c)
          seam [] = refl
          seam (y ∷ l) = seam l

      to : On made' u → HeldBy T (list ++ (MK c ∷ [])) u
      to o = elim (w.only closed u o) [ inl o' ↦ held_before (MK c) u ((held u).0 o') | inr i ↦ (c, last, i) ]

      from : HeldBy T (list ++ (MK c ∷ [])) u → On made' u
      from (y, mem, i) = elim (Memᴰ.append_cases list mem) [
        | inl m ↦ w.kept u ((held u).1 (y, m, i))
        | inr m ↦ (let j : y ≡ c = cc (Memᴰ.eq_of_singleton m) in w.all u (subst (Within T u) j i))
      ]
  held_after (LN c) e u = (λ o. held_before (LN c) u ((held u).0 (subst (λ m. On m u) e o)), λ h. subst (λ m. On m u) (sym e) (from h))
    where
      from : HeldBy T (list ++ (LN c ∷ [])) u → On made u
      from (y, mem, i) = elim (Memᴰ.append_cases list mem) [
        | inl m ↦ (held u).1 (y, m, i)
        | inr m ↦ clash (cc (Memᴰ.eq_of_singleton m))
      ]

-- An event is loose over such marks as the format says.
module _ (cells : List case.Cell) (low : Lower (table_of cells)) (list : List case.Event) (made : List ℕ) (held : (v : ℕ) → On made v ↔ HeldBy (table_of cells) list v) where
  abbrev so_far : case.File
  so_far = record { cells = cells; events = list }

  is_loose_lem : {v : case.Event} → Loose (table_of cells) made v → loose so_far (Record.event v) ≡ true
  is_loose_lem (shown {v} {c} i w n) = (unheld_true (table_of cells) low list c).1 (v, i, w, λ h. n ((held v).1 h))

  not_loose : (v : case.Event) → (Loose (table_of cells) made v → ⊥) → loose so_far (Record.event v) ≡ false
  not_loose (MK c) never = refl
  not_loose (LN c) never = (unheld_false (table_of cells) low list c).1 (λ v i w. (held v).0 (elim (on? made v) [ inl o ↦ o | inr n ↦ absurd (never (shown i w n)) ]))

abbrev no_marks : List ℕ
no_marks = replicate 128 0

module _ (rest : List ℕ) (base : ℕ) (t : Table) (file : List ℕ) (cells : List case.Cell) (x : Context rest base t file cells) where
  pub events_start : (e : Row) → e ≡ no_words → EventsSoFar base file cells 0 e no_marks
  events_start e i = record {
    list = [];
    run = i;
    few = omega arith;
    first = λ _. refl;
    held = λ v. (λ o. absurd (no_mark 128 v o), λ (c, mem, w). absurd (Memᴰ.not-nil mem));
    left = ap (λ n. read_from 257 (drop n file) n (record { cells = cells; events = [] })) zero_more ∙ x.whole;
  }
    where
      zero_more : base + 0 ≡ base
      zero_more = omega arith

  module _ (at : ℕ) (e : Row) (made : List ℕ) (s : EventsSoFar base file cells at e made) where
    abbrev f : case.File
    f = record { cells = cells; events = s.list }

    room_left : Few f
    room_left = record { cells = (let k = x.count in let h = t.formed.few in omega arith); events = s.few }

    events : e.count ≡ length s.list
    events = ap (λ u. u.count) s.run

    here_rest : drop at rest ≡ drop (base + at) file
    here_rest = ap (drop at) x.part ∙ drop-drop at base file

    among : Among (drop at rest) f t.count e.count
    among = record { cells = sym x.count; events = sym events; begun = λ z. subst (λ n. Begun (drop n rest)) (sym (s.first z)) x.begun }

    checked : {c : Checked} → ((g : case.File) → Among (drop at rest) g t.count e.count → check (drop at rest) g ≡ c) → check (drop (base + at) file) f ≡ c
    checked h = ap (λ r. check r f) (sym here_rest) ∙ h f among

    pub events_refused : (n : ℕ) → ((g : case.File) → Among (drop at rest) g t.count e.count → check (drop at rest) g ≡ Checked.fault n) → read_file file ≡ Reading.refused n (base + at)
    events_refused n h = sym s.left ∙ read_fault file (base + at) f room_left n (checked h)

    -- At EN.
    module _ (d : Ended (drop at rest) t.count e.count) where
      reply : read_file file ≡ ended (drop at rest) (base + at) f
      reply = sym s.left ∙ (read_end file (base + at) f room_left d.tag (checked d.sound) (ap (λ r. record_at r d.tag) (sym here_rest) ∙ d.says) ∙ ap (λ r. ended r (base + at) f) (sym here_rest))

      follows : (b : Bool) → ltb 2 (length (drop at rest)) ≡ b → read_file file ≡ cond b (Reading.refused 7 (base + at + 2)) (Reading.accepted f)
      follows b j = reply ∙ ap (λ b. cond b (Reading.refused 7 (base + at + 2)) (Reading.accepted f)) j

      pub events_trailing : 2 < length rest - at → read_file file ≡ Reading.refused 7 (base + at + 2)
      events_trailing h = follows true (lt-ltb _ _ (omega (arith, length-drop at rest)))

      pub events_end : length rest - at ≤ 2 → read_as (Ok e) cells (read_file file)
      events_end h = (s.list, s.run, follows false (le-ltb _ _ (omega (arith, length-drop at rest))))

    -- At an event.
    module _ (v : case.Event) (d : Found (drop at rest) t.count e.count v) where
      low' : Lower (table_of cells)
      low' = subst Lower x.shown t.formed.lower

      looks : {b : Bool} → loose f (Record.event v) ≡ b → check (drop (base + at) file) f ≡ cond b (Checked.fault 6) (Checked.sound d.tag)
      looks i = ap (λ r. check r f) (sym here_rest) ∙ (d.tested f among ∙ ap (λ b. cond b (Checked.fault 6) (Checked.sound d.tag)) i)

      pub events_loose : Loose (table_in t.words) made v → read_file file ≡ Reading.refused 6 (base + at)
      events_loose l = sym s.left ∙ read_fault file (base + at) f room_left 6 (looks (is_loose_lem cells low' s.list made s.held (subst (λ T. Loose T made v) x.shown l)))

      module _ (never : Loose (table_in t.words) made v → ⊥) where
        tied : check (drop (base + at) file) f ≡ Checked.sound d.tag
        tied = looks (not_loose cells low' s.list made s.held v (λ l. never (subst (λ T. Loose T made v) (sym x.shown) l)))

        room : length s.list < 128
        room = let r = d.room in let k = events in omega arith

        not_empty : (l : List case.Event) → l ++ (v ∷ []) ≡ [] → ⊥
        not_empty [] i = clash (cc)
        not_empty (y ∷ l) i = clash (cc)

        pub events_next : (made' : List ℕ) → marks_after (table_in t.words) made v made' → EventsSoFar base file cells (at + 3) (with_word e (event_word v)) made'
        events_next made' w = record {
          list = s.list ++ (v ∷ []);
          run = ap (λ u. with_word u (event_word v)) s.run ∙ word_more event_word s.list v room;
          few = let r = room in let o = length_snoc s.list v in omega arith;
          first = λ z. absurd (not_empty s.list z);
          held = held_after (table_of cells) s.list made made' s.held v (subst (λ T. marks_after T made v made') x.shown w);
          left = ap (λ n. read_from 257 (drop n file) n (record { cells = cells; events = s.list ++ (v ∷ []) })) on
              ∙ (sym (read_event file (base + at) f room_left d.tag tied 3 v d.size (says ∙ d.says)) ∙ s.left);
        }
          where
            on : base + (at + 3) ≡ base + at + 3
            on = omega arith

            says : record_at (drop (base + at) file) d.tag ≡ record_at (drop at rest) d.tag
            says = ap (λ r. record_at r d.tag) (sym here_rest)
