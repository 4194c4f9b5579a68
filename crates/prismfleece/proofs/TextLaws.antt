-- The replies to typed text as numbers.
use mathlib.Core.Path.{◌≡◌, refl, sym, ◌∙◌, ap, subst}
use mathlib.Core.Logic.{◌⊎◌, inl, inr}
use mathlib.Core.List.{List, [], ◌∷◌, ◌++◌}
use Prim.Native.Nat.{ℕ, suc, ◌+◌, ◌-◌, ◌*◌, ◌^◌, ◌≤◌, ◌<◌}
use native.Mathlib.Omega.{arith}
use native.Mathlib.Decide.{dec_lt}
use lib.ListN.{length, length-append}
use Rattle.model.specs.Message.{App, Two}
use Rattle.model.specs.Case.{Cell, AT, VA, ONE, TWO, Event, MK, LN, File}
use Rattle.model.specs.Format.{End, mark, cell_bytes, event_bytes, joined, file_bytes}
use Rattle.model.proofs.Read.{clash}
use Rattle.model.proofs.Accepted.{accepted_file}
use Rattle.grammar.specs.Typed.{Entry}
use Rattle.grammar.specs.Grammar.{line_bytes, bytes_of, Fault, early, wrong, deep}
use Rattle.grammar.specs.Filed.{file_of}
use Rattle.grammar.specs.Text as typed
use Rattle.grammar.specs.Text.{Outcome, refused, said, faulty, many, loose, line, Replied, short, written, TextReply}
use Rattle.grammar.proofs.Phrases.{length_bytes}
use Rattle.grammar.proofs.Theorems.{file_accepted}
use Rattle.std.specs.Prelude.{Result, Ok, Err}
use Rattle.refusals.specs.declared.Refusal.{Refusal}
use Rattle.refusals.specs.Numbers.{number_of, fault_of}
use Rattle.refusals.proofs.Numbers.{fault_numbered, number_one as fault_one, number_up}
use Rattle.typing.specs.Reply.{Refused, Written}
use Rattle.std.specs.Result.{MatchResult, IsErrAnd}
use Rattle.std.proofs.lemmas.Result.{err_from_is_err_and}
use Rattle.prismfleece.specs.Numbers.{told_place, told_refusal, text_number, bytes_number, Room}
use Rattle.prismfleece.proofs.Told.{Told, refusal, small, number, Fits, number_one, same_refusal}

abbrev pub told : Result ℕ Refusal → Told
told (Err e) = refusal (number_of e.fault) (told_place e.place)
told (Ok n) = small (suc n)

told_number : (r : Result ℕ Refusal) → text_number r ≡ number (told r)
told_number (Err e) = refl
told_number (Ok n) = omega arith

-- ---- a file of at most 128 cells and 128 events has at most 898 bytes

cells_most : (cells : List Cell) → length (joined cell_bytes cells) ≤ 4 * length cells
unfolding joined
cells_most [] = omega arith
cells_most (AT n ∷ cells) = let h = cells_most cells in omega arith
cells_most (VA ∷ cells) = let h = cells_most cells in omega arith
cells_most (ONE (App f) a ∷ cells) = let h = cells_most cells in omega arith
cells_most (TWO Two.Pair l r ∷ cells) = let h = cells_most cells in omega arith
cells_most (TWO Two.Seal b k ∷ cells) = let h = cells_most cells in omega arith

events_most : (events : List Event) → length (joined event_bytes events) ≤ 3 * length events
unfolding joined
events_most [] = omega arith
events_most (MK c ∷ events) = let h = events_most events in omega arith
events_most (LN c ∷ events) = let h = events_most events in omega arith

file_most : (f : File) → length (file_bytes f) ≤ 4 * length f.cells + 3 * length f.events + 2
file_most f =
    let a = cells_most f.cells in
    let b = events_most f.events in
    let c = length-append (joined event_bytes f.events) (mark End) in
    let d = length-append (joined cell_bytes f.cells) (joined event_bytes f.events ++ mark End) in
    omega arith

-- The file of a text has at most 898 bytes.
said_most : (text : List ℕ) (es : List Entry) → typed.Told [] 0 text (said es) → length (file_bytes (file_of es)) ≤ 898
said_most text es t =
    let a = accepted_file (file_bytes (file_of es)) (file_of es) (file_accepted text es t) in
    let c = a.few_cells in
    let e = a.few_events in
    let b = file_most (file_of es) in
    omega arith

-- ---- a refusal's number is at least 1, and its place is at most the text's length

fault_within : {text : List ℕ} {n i : ℕ} → Fault text n i → (1 ≤ n) × (i ≤ length text)
fault_within (early b) = (omega arith, omega arith)
fault_within (wrong front b behind e begun bad) =
    let k = length-append front (b ∷ behind) in
    let m = ap (λ (x : List ℕ). length x) e in
    (omega arith, omega arith)
fault_within (deep l w b n rest behind e h k z) =
    let p = length-append (bytes_of w) (b ∷ behind) in
    let q = ap (λ (x : List ℕ). length x) z in
    let r = length_bytes w in
    (omega arith, omega arith)

refused_within : {es : List Entry} {at : ℕ} {text : List ℕ} {n p : ℕ} → typed.Told es at text (refused n p) → (1 ≤ n) × (p ≤ at + length text)
refused_within (faulty n i f) = let (h, k) = fault_within f in (h, omega arith)
refused_within (many l rest f m) = (omega arith, omega arith)
refused_within (loose l rest f few h) = (omega arith, omega arith)
refused_within (line l rest f few tied t) =
    let (h, k) = refused_within t in
    let m = ap (λ (x : List ℕ). length x) f.bytes in
    let q = length-append (line_bytes l) rest in
    (h, omega arith)

-- ---- what is told

-- The place of a refusal is at most the text's length, or at most 898.
abbrev Near : List ℕ → Result ℕ Refusal → Type 0
Near text (Err e) = (e.place ≤ length text) ⊎ (e.place ≤ 898)
Near text (Ok n) = Unit

replied_near : {text before after : List ℕ} {o : Outcome} {r : Result ℕ Refusal} → typed.Told [] 0 text o → Replied Refused Written before o r after → Fits (told r) × Near text r
replied_near t (typed.refusal n p) = let (h, k) = refused_within t in ((number_up (fault_of n), omega arith), inl (omega arith))
replied_near {text = text} t (short es h) = let k = said_most text es t in ((omega arith, omega arith), inr k)
replied_near {text = text} t (written es h) = let k = said_most text es t in (omega arith, tt)

module _ (text : List ℕ) {before after : List ℕ} (r : Result ℕ Refusal) (p : TextReply Refused Written text before r after) where
  pub text_fits : Fits (told r)
  text_fits = (replied_near p.told p.replied).0

  text_near : Near text r
  text_near = (replied_near p.told p.replied).1

-- Two refusals with one number, both at places of 2 ^ 32 - 1 or more.
abbrev Far : Result ℕ Refusal → Result ℕ Refusal → Type 0
Far r r' = (n : ℕ) × (p : ℕ) × (q : ℕ) × (r ≡ Refused n p) × (r' ≡ Refused n q) × (2 ^ 32 - 1 ≤ p) × (2 ^ 32 - 1 ≤ q)

-- A refusal by the number of its fault is that refusal.
renumbered : (x : Refusal) (n : ℕ) → n ≡ number_of x.fault → Refused n x.place ≡ Err x
renumbered x n i = ap (λ k. Refused k x.place) i ∙ ap (λ f. Err (record { fault = f; place = x.place })) (fault_numbered x.fault)

-- Replies that are told alike are equal, or such refusals.
told_alike : (r r' : Result ℕ Refusal) → told r ≡ told r' → (r ≡ r') ⊎ Far r r'
told_alike (Err x) (Err y) e =
    let i : number_of x.fault ≡ number_of y.fault = cc in
    let j : told_place x.place ≡ told_place y.place = cc in
    elim (dec_lt x.place (2 ^ 32 - 1)) [
      | yes h ↦ (let k : x.place ≡ y.place = omega arith in inl (same_refusal x y (fault_one x.fault y.fault i) k))
      | no h ↦ inr (number_of x.fault, x.place, y.place, sym (renumbered x _ refl), sym (renumbered y _ i), omega arith, omega arith)
    ]
told_alike (Err x) (Ok m) e = clash (cc)
told_alike (Ok n) (Err y) e = clash (cc)
told_alike (Ok n) (Ok m) e = inl (cc)

-- ---- the reply as it is told

-- The reply r' is r, with a refusal's place as it is told.
abbrev pub Cut : Result ℕ Refusal → Result ℕ Refusal → Type 0
Cut r r' = MatchResult r (λ n. r' ≡ Ok n) (λ e. IsErrAnd r' (λ d. d ≡ told_refusal e))

-- A number has room for it.
pub cut_room : (r r' : Result ℕ Refusal) → Cut r r' → Fits (told r) → Room bytes_number r'
cut_room (Ok n) r' e h = rw e (omega arith)
cut_room (Err x) r' k h = let (y, i, j) = err_from_is_err_and r' k in rw (i, j) (omega arith)

-- ---- what a number tells

module _ (text text' : List ℕ) {before before' after after' : List ℕ} (r r' : Result ℕ Refusal)
    (p : TextReply Refused Written text before r after) (p' : TextReply Refused Written text' before' r' after') where
  -- A number tells its reply, but for places of 2 ^ 32 - 1 or more;
  pub text_tells : text_number r ≡ text_number r' → (r ≡ r') ⊎ Far r r'
  text_tells e = told_alike r r' (number_one (told r) (told r') (text_fits text r p) (text_fits text' r' p') (sym (told_number r) ∙ (e ∙ told_number r')))

  -- no text of fewer bytes has one.
  pub text_exact : length text < 2 ^ 32 - 1 → text_number r ≡ text_number r' → r ≡ r'
  text_exact h e = elim (text_tells e) [
    | inl i ↦ i
    | inr (n, a, b, i, j, k, l) ↦ absurd (near_far a (subst (Near text) i (text_near text r p)) k)
  ]
    where
      near_far : (a : ℕ) → (a ≤ length text) ⊎ (a ≤ 898) → 2 ^ 32 - 1 ≤ a → ⊥
      near_far a (inl x) k = omega arith
      near_far a (inr x) k = omega arith
