-- The file of a text has at most 898 bytes, so none is refused with 9.
use mathlib.Core.Path.{◌≡◌, refl, sym, ◌∙◌, ap, subst}
use mathlib.Core.List.{List, [], ◌∷◌, ◌++◌}
use Prim.Native.Nat.{ℕ, ◌*◌, ◌≤◌}
use native.Mathlib.Omega.{arith}
use lib.ListN.{length, take, length-append}
use Rattle.model.proofs.Read.{clash}
use Rattle.model.specs.Case.{Cell, Event, MK, LN}
use Rattle.model.specs.Format.{cell_bytes, event_bytes, joined, file_bytes, mark, End}
use Rattle.grammar.specs.Typed.{Entry}
use Rattle.grammar.specs.Grammar.{Fault, early, wrong, deep}
use Rattle.grammar.specs.Filed.{file_of}
use Rattle.grammar.specs.Text.{Outcome, refused, said, Told, faulty, many, loose, line, Replied, TextReply, refusal, short, written}
use Rattle.grammar.proofs.Taken.{Bounded}
use Rattle.grammar.proofs.Theorems.{accepted_iff_lines}
use Rattle.std.specs.Prelude.{Result, Ok, Err}
use Rattle.refusals.specs.declared.Refusal.{Refusal}
use Rattle.refusals.specs.Numbers.{number_of, fault_of}
use Rattle.typing.specs.Reply.{Refused, Written}
use Rattle.typing.proofs.FileLaws.{cell_size}
use Rattle.typing.proofs.Theorems.{written_accepted}
use Rattle.enter.specs.Enters.{Enters}

-- ---- a file has at most 898 bytes

event_size : (e : Event) → length (event_bytes e) ≤ 3
event_size (MK c) = omega arith
event_size (LN c) = omega arith

cells_size : (ks : List Cell) → length (joined cell_bytes ks) ≤ 4 * length ks
unfolding joined
cells_size [] = omega arith
cells_size (k ∷ ks) = let e = length-append (cell_bytes k) (joined cell_bytes ks) in let s = cell_size k in let i = cells_size ks in omega arith

events_size : (es : List Event) → length (joined event_bytes es) ≤ 3 * length es
unfolding joined
events_size [] = omega arith
events_size (e ∷ es) = let z = length-append (event_bytes e) (joined event_bytes es) in let s = event_size e in let i = events_size es in omega arith

file_size : (es : List Entry) → Bounded es → length (file_bytes (file_of es)) ≤ 898
file_size es b =
    let f = file_of es in
    let e = length-append (joined cell_bytes f.cells) (joined event_bytes f.events ++ mark End) in
    let z = length-append (joined event_bytes f.events) (mark End) in
    let c = cells_size f.cells in
    let d = events_size f.events in
    let k = b.cells in
    let l = b.events in
    let m : length (mark End) ≡ 2 = refl in
    omega arith

said_size : (text : List ℕ) (es : List Entry) → Told [] 0 text (said es) → length (file_bytes (file_of es)) ≤ 898
said_size text es t = let (ls, a, e, z, b) = (accepted_iff_lines text es).0 t in file_size es b

-- ---- so no text is refused with 9

fault_number : {text : List ℕ} {n i : ℕ} → Fault text n i → n ≡ 9 → ⊥
fault_number (early b) e = omega arith
fault_number (wrong front b behind z w s) e = omega arith
fault_number (deep l w b n rest behind z s h k) e = omega arith

told_number : {es : List Entry} {at n p : ℕ} {text : List ℕ} → Told es at text (refused n p) → n ≡ 9 → ⊥
told_number (faulty n i f) e = fault_number f e
told_number (many l rest f h) e = omega arith
told_number (loose l rest f h z) e = omega arith
told_number (line l rest f h z t) e = told_number t e

-- Its number is that of a fault.
numbered : {es : List Entry} {at n p : ℕ} {text : List ℕ} → Told es at text (refused n p) → number_of (fault_of n) ≡ n
numbered (faulty n i (early b)) = refl
numbered (faulty n i (wrong front b behind z w s)) = refl
numbered (faulty n i (deep l w b m rest behind z s h k)) = refl
numbered (many l rest f h) = refl
numbered (loose l rest f h z) = refl
numbered (line l rest f h z t) = numbered t

-- The number by which a reply refuses.
abbrev number_told : Result ℕ Refusal → ℕ
number_told (Ok n) = 0
number_told (Err e) = number_of e.fault

no_nine : {text before after : List ℕ} {o : Outcome} {r : Result ℕ Refusal} → 898 ≤ length before → Told [] 0 text o → Replied Refused Written before o r after → (n : ℕ) → r ≡ Refused 9 n → ⊥
no_nine h t (refusal number place) n e = told_number t (sym (numbered t) ∙ ap number_told e)
no_nine {text} h t (short es l) n e = let s = said_size text es t in omega arith
no_nine h t (written es l) n e = clash (cc)

written_inside : {before after : List ℕ} {o : Outcome} {r : Result ℕ Refusal} → Replied Refused Written before o r after → (n : ℕ) → r ≡ Written n → n ≤ length before
written_inside (refusal number place) n e = clash (cc)
written_inside (short es l) n e = clash (cc)
written_inside (written es l) n e = let z : length (file_bytes (file_of es)) ≡ n = cc in omega arith

pub enters : (text before after : List ℕ) (r : Result ℕ Refusal) → 898 ≤ length before → length after ≡ length before → TextReply Refused Written text before r after → Enters text before r after
enters text before after r h k w = record {
  reply = w;
  inside = λ n e. let i = written_inside w.replied n e in omega arith;
  enough = no_nine h w.told w.replied;
}

-- ---- what is told of a text

-- A refusal is one of the text: none is for want of room.
pub refused_told : (text before after : List ℕ) (e : Refusal) → Enters text before (Err e) after → Told [] 0 text (refused (number_of e.fault) e.place)
refused_told text before after e w = go w.reply.told w.reply.replied w.enough refl
  where
    go : {o : Outcome} {r : Result ℕ Refusal} {after : List ℕ} → Told [] 0 text o → Replied Refused Written before o r after → ((k : ℕ) → r ≡ Refused 9 k → ⊥) → r ≡ Err e →
        Told [] 0 text (refused (number_of e.fault) e.place)
    go t (refusal number place) h i =
        (let f : fault_of number ≡ e.fault = cc in
        let p : place ≡ e.place = cc in
        let n : number ≡ number_of e.fault = sym (numbered t) ∙ ap number_of f in
        subst (λ k. Told [] 0 text (refused k e.place)) n (subst (λ q. Told [] 0 text (refused number q)) p t))
    go t (short es l) h i = absurd (h _ refl)
    go t (written es l) h i = clash (cc)

-- What is written is the file of the entries that the text says.
pub said_told : (text before after : List ℕ) (n : ℕ) → Enters text before (Ok n) after → (es : List Entry) × Told [] 0 text (said es) × (take n after ≡ file_bytes (file_of es))
said_told text before after n w = let (es, t, z, a) = written_accepted text before after n w.reply in (es, t, z)
