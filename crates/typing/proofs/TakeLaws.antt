-- A line whose cells are entered: too many, loose, or taken.
use mathlib.Core.Path.{◌≡◌, refl, sym, ◌∙◌, ap, subst}
use mathlib.Core.Logic.{◌⊎◌, inl, inr}
use mathlib.Core.Bool.{true, false}
use Rattle.std.specs.Prelude.{Result, Ok, Err}
use mathlib.Core.List.Memᴰ
use mathlib.Core.List.{List, [], ◌∷◌, ◌++◌, map, Memᴰ}
use Prim.Native.Nat.{ℕ, ◌+◌, ◌≤◌, ◌<◌}
use native.Mathlib.Omega.{arith}
use native.Mathlib.Decide.{dec_lt}
use lib.ListN.{length, get_or, drop, set, replicate, length-set, length-replicate, get_or-append}
use lib.Seq.{get_or-set_same, get_or-set_other, get_or_at}
use Rattle.refusals.specs.declared.Fault.TheVariants.{TooMany as too_many, LooseVariable}
use Rattle.refusals.specs.declared.Refusal.{Refusal}
use Rattle.refusals.specs.Numbers.{number_of}
use Rattle.refusals.proofs.Numbers.{fault_numbered}
use Rattle.model.specs.Case.{VA, MK}
use Rattle.model.specs.Stored.{event_word, aim, table_in, cell_in}
use Rattle.model.proofs.Read.{clash}
use Rattle.model.proofs.Rows.{table_at}
use Rattle.model.proofs.Listed.{bool?, true_false, length_snoc}
use Rattle.cells.specs.Cells.{as_event}
use Rattle.cells.specs.declared.Event.{Event}
use Rattle.cells.specs.declared.Event.TheVariants as event
use Rattle.grammar.specs.Typed.{Typed, name, variable, Entry, tree_of, Holds}
use Rattle.grammar.specs.Grammar.{Line, learn, make, list_of, list_says, line_says}
use Rattle.grammar.specs.Filed.{completed, completions, entered, trees_of, place, cell_of, event_of, file_of, TooMany, is_loose}
use Rattle.grammar.specs.Text as text
use Rattle.grammar.specs.Text.{refused, said, Told, TextReply, refusal}
use Rattle.grammar.specs.Reader.{Finds, reads, read, line}
use Rattle.grammar.proofs.ReadLines.{told_end, told_wrong, told_deep, told_many, told_loose, told_line}
use Rattle.grammar.proofs.Trees.{in?, place_in, trees_snoc, tree_in}
use Rattle.grammar.proofs.Filed.{at_in, place_at, Backed}
use Rattle.grammar.proofs.Taken.{tied_backed}
use Rattle.grammar.proofs.Entering.{list_small, events_more}
use Rattle.typing.specs.declared.store.Store.{Store}
use Rattle.typing.specs.declared.line.Lines.{Lines}
use Rattle.typing.specs.Store.{In, Sound, none, WordsOf, Stored, fits, over, PutAt}
use Rattle.typing.specs.Readers.{Misread, wrong_byte, too_deep}
use Rattle.typing.specs.Reply.{Refused, Written}
use Rattle.typing.specs.Lines.{event_for, Entering, Kept, LooseSays, with_event, LineFoundAs, LineSays, Taken, LineRead}
use Rattle.typing.proofs.Trees.{sound_grown, entered_grows, grows_place, sound_ready, entered_sound}
use Rattle.typing.proofs.Keys.{key_cell, variable_cell}
use Rattle.typing.proofs.Variables.{entered_from, grows_new, holds_in, completed_holds}

length_map : {A B : Type 0} (f : A → B) (l : List A) → length (map f l) ≡ length l
length_map f [] = refl
length_map f (x ∷ l) = (let z = length_map f l in omega arith)

pub cells_length : (es : List Entry) → length (file_of es).cells ≡ length (trees_of es)
cells_length es = length_map (cell_of (trees_of es)) (trees_of es)

pub events_length : (es : List Entry) → length (file_of es).events ≡ length es
events_length es = length_map (event_of (trees_of es)) es

-- What the words show.
pub words_show : (trees : List Typed) (words : List ℕ) (count : ℕ) → Sound trees → WordsOf trees words count → (c : ℕ) → c < length trees → table_in words c ≡ cell_of trees (get_or trees c (name 0))
words_show trees words count s h c l =
    table_at words c (omega (arith, h.room)) ∙ (ap cell_in (h.keys c l) ∙ key_cell trees h.room (get_or trees c (name 0)) (sound_ready s (get_or trees c (name 0)) (at_in trees c l)))

line_tree : (l : Line) → tree_of (line_says l) ≡ list_says (list_of l)
line_tree (learn l) = refl
line_tree (make l) = refl

module _ (es : List Entry) (lines : Lines) (k : Kept es lines) (l : Line) (store : Store) (e : Event) (n : Entering lines.store l store e) where
  abbrev before : List Typed
  before = trees_of es

  abbrev tree : Typed
  tree = list_says (list_of l)

  abbrev after : List Typed
  after = entered (trees_of es) (completed (list_says (list_of l)))

  abbrev more : List Entry
  more = es ++ (line_says l ∷ [])

  put : PutAt after tree (record { store = store; cell = aim (as_event e) })
  put = n.completes before k.sound (fits k.room k.cells)

  new : trees_of more ≡ after
  new = trees_snoc es (line_says l) ∙ ap (λ t. entered before (completed t)) (line_tree l)

  sound_after : Sound after × In after tree
  sound_after = entered_sound tree (list_small (list_of l)) before k.sound

  cells_size : length (file_of more).cells ≡ length after
  cells_size = cells_length more ∙ ap length new

  events_size : length (file_of more).events ≡ length es + 1
  events_size = events_length more ∙ length_snoc es (line_says l)

  -- ---- too many

  pub many_full : store.full ≡ true → TooMany more
  many_full f = go put.stored
    where
      go : Stored after store → TooMany more
      go (fits g h) = true_false f g
      go (over g h) = inl (omega (arith, cells_size))

  pub many_events : 128 ≤ lines.events → TooMany more
  many_events h = inr (omega (arith, events_size, k.counts))

  held : store.full ≡ false → WordsOf after store.words store.count
  held f = go put.stored
    where
      go : Stored after store → WordsOf after store.words store.count
      go (fits g h) = h
      go (over g h) = true_false g f

  pub not_many : store.full ≡ false → lines.events < 128 → TooMany more → ⊥
  not_many f h (inl m) = absurd (omega (arith, cells_size, (held f).room))
  not_many f h (inr m) = absurd (omega (arith, events_size, k.counts))

  -- ---- loose

  -- A variable of the table is one of the message, or stood there before.
  from : (v : ℕ) → In after (variable v) → In before (variable v) ⊎ Holds v tree
  from v i = elim (entered_from before (completed tree) (variable v) i) [ inl j ↦ inl j | inr m ↦ inr (completed_holds v tree m) ]

  backed_in : (v : ℕ) (u : Typed) → Memᴰ (Entry.make u) es → Holds v u → In before (variable v)
  backed_in v u m h = holds_in (sound_grown k.sound) v h (tree_in es (Entry.make u) m)

  -- A new cell that is a variable.
  abbrev Fresh : Type 0
  Fresh = (v : ℕ) × (lines.store.count ≤ v) × (v < store.count) × (table_in store.words v ≡ VA)

  fresh_loose : store.full ≡ false → Fresh → Backed es tree → ⊥
  fresh_loose f (v, low, high, e) b =
      let h = held f in
      let i : v < length after = omega (arith, h.counts) in
      let (x, z) = variable_cell after (get_or after v (name 0)) (sym (words_show after store.words store.count sound_after.0 h v i) ∙ e) in
      let p : place after (variable x) ≡ v = ap (place after) (sym z) ∙ place_at (sound_grown sound_after.0) v i in
      let out : In before (variable x) → ⊥ = λ j. let q = grows_place (entered_grows before (completed tree)) (variable x) j in let w = (place_in before (variable x) j).0 in absurd (omega (arith, k.cells.counts)) in
      elim (from x (subst (In after) z (at_in after v i))) [ inl j ↦ out j | inr g ↦ (let (u, m, w) = b x g in out (backed_in x u m w)) ]

  none_backed : store.full ≡ false → (Fresh → ⊥) → Backed es tree
  none_backed f bad x g = elim (in? before (variable x)) [
    | inl i ↦ k.made x i
    | inr i ↦ (
        let h = held f in
        let j : In after (variable x) = holds_in (sound_grown sound_after.0) x g sound_after.1 in
        let low = grows_new (entered_grows before (completed tree)) (variable x) i j in
        let (lt, at) = place_in after (variable x) j in
        let shown = words_show after store.words store.count sound_after.0 h (place after (variable x)) lt ∙ ap (cell_of after) at in
        absurd (bad (place after (variable x), omega (arith, k.cells.counts), omega (arith, h.counts), shown)))
  ]

  -- ---- taken

  event_is : store.full ≡ false → as_event e ≡ event_of (trees_of more) (line_says l)
  event_is f = n.event ∙ (ap (event_for l) (put.cell f) ∙ (by l ∙ ap (λ t. event_of t (line_says l)) (sym new)))
    where
      by : (l : Line) → event_for l (place (entered (trees_of es) (completed (list_says (list_of l)))) (list_says (list_of l))) ≡ event_of (entered (trees_of es) (completed (list_says (list_of l)))) (line_says l)
      by (learn l) = refl
      by (make l) = refl

  run_next : store.full ≡ false → lines.events < 128 → (p : ℕ) → p < length more → get_or (with_event lines store e).run p 0 ≡ event_word (get_or (file_of more).events p (MK 0))
  run_next f room p h = elim (dec_lt p (length es)) [
    | yes i ↦ (let z : p ≡ lines.events → ⊥ = λ w. absurd (omega (arith, k.counts)) in
        get_or-set_other lines.run lines.events p (event_word (as_event e)) 0 z ∙ (k.run p i ∙ ap event_word (sym (all p ∙ get_or-append (file_of es).events (event_of (trees_of more) (line_says l) ∷ []) (MK 0) p (omega (arith, events_length es))))))
    | no i ↦ (let z : p ≡ lines.events = omega (arith, k.counts, length_snoc es (line_says l)) in
        ap (λ x. get_or (set lines.run lines.events (event_word (as_event e))) x 0) z ∙ (get_or-set_same lines.run lines.events (event_word (as_event e)) 0 (omega (arith, k.long)) ∙
        ap event_word (event_is f ∙ sym (all p ∙ get_or_at (file_of es).events (event_of (trees_of more) (line_says l)) [] (MK 0) p (events_length es ∙ (sym k.counts ∙ sym z))))))
  ]
    where
      all : (p : ℕ) → get_or (file_of more).events p (MK 0) ≡ get_or ((file_of es).events ++ (event_of (trees_of more) (line_says l) ∷ [])) p (MK 0)
      all p = ap (λ x. get_or x p (MK 0)) (events_more es (line_says l))

  made_next : is_loose es (line_says l) ≡ false → (x : ℕ) → In (trees_of more) (variable x) → (u : Typed) × Memᴰ (Entry.make u) more × Holds x u
  made_next tied x i = elim (from x (subst (λ t. In t (variable x)) new i)) [
    | inl j ↦ (let (u, m, h) = k.made x j in (u, Memᴰ.append_left (line_says l ∷ []) m, h))
    | inr h ↦ by l tied h
  ]
    where
      by : (l : Line) → is_loose es (line_says l) ≡ false → Holds x (list_says (list_of l)) → (u : Typed) × Memᴰ (Entry.make u) (es ++ (line_says l ∷ [])) × Holds x u
      by (make l) tied h = (list_says l, Memᴰ.append_right es (Memᴰ.head refl), h)
      by (learn l) tied h = (let (u, m, w) = (tied_backed es (list_says l)).0 tied x h in (u, Memᴰ.append_left (Entry.learn (list_says l) ∷ []) m, w))

  pub kept_next : store.full ≡ false → lines.events < 128 → is_loose es (line_says l) ≡ false → Kept more (with_event lines store e)
  kept_next f room tied = record {
    sound = subst Sound (sym new) sound_after.0;
    room = f;
    cells = subst (λ t. WordsOf t store.words store.count) (sym new) (held f);
    counts = omega (arith, k.counts, length_snoc es (line_says l));
    few = omega (arith, k.counts, length_snoc es (line_says l));
    long = length-set lines.run lines.events (event_word (as_event e)) ∙ k.long;
    run = run_next f room;
    made = made_next tied;
  }

-- By the event and the line.
module _ (es : List Entry) (lines : Lines) (k : Kept es lines) where
  pub loose_yes : (l : Line) (store : Store) (e : Event) → Entering lines.store l store e → store.full ≡ false → LooseSays lines.store.count store e true → is_loose es (line_says l) ≡ true
  loose_yes l store (event.Make c) n f s = true_false refl s
  loose_yes (make l) store (event.Learn c) n f s = (let z = n.event in clash (cc))
  loose_yes (learn l) store (event.Learn c) n f s = elim (bool? (is_loose es (Entry.learn (list_says l)))) [
    | inl e ↦ e
    | inr e ↦ absurd (fresh_loose es lines k (learn l) store (event.Learn c) n f (s.yes refl) ((tied_backed es (list_says l)).0 e))
  ]

  pub loose_no : (l : Line) (store : Store) (e : Event) → Entering lines.store l store e → store.full ≡ false → LooseSays lines.store.count store e false → is_loose es (line_says l) ≡ false
  loose_no (make l) store e n f s = refl
  loose_no (learn l) store (event.Make c) n f s = (let z = n.event in clash (cc))
  loose_no (learn l) store (event.Learn c) n f s = (tied_backed es (list_says l)).1 (none_backed es lines k (learn l) store (event.Learn c) n f (s.no refl))

-- ---- the lines so far

pub kept_none : Kept [] (record { store = record { words = replicate 128 0; count = 0; full = false }; run = replicate 128 0; events = 0 })
unfolding completions entered
kept_none = record {
  sound = none;
  room = refl;
  cells = record { counts = refl; room = omega arith; long = length-replicate {A = ℕ} 128 0; keys = λ c h. absurd (omega arith) };
  counts = refl;
  few = omega arith;
  long = length-replicate {A = ℕ} 128 0;
  run = λ p h. absurd (omega arith);
  made = λ n h. absurd (Memᴰ.not-nil h);
}

-- The lines with the cells of a further one entered.
abbrev with_store : Lines → Store → Lines
with_store lines store = record { store = store; run = lines.run; events = lines.events }

module _ (s : List ℕ) (at : ℕ) (h : at < length s) (lines : Lines) (store : Store) where
  pub read_misread : (r : Refusal) (next : Lines) → Misread line s at r → LineRead s at lines (Err r) next
  read_misread _ next (wrong_byte p f) es k = told_wrong s at es p h f
  read_misread _ next (too_deep p f) es k = told_deep s at es p h f

  pub read_taken : (to : ℕ) (e : Event) → LineFoundAs s at lines.store (Ok (to, e)) store → (r : Result ℕ Refusal) (next : Lines) → Taken (with_store lines store) lines.store.count e at to r next → LineRead s at lines r next
  read_taken to e (l, g, n) r next t es k = t s es l lines.store refl k g n

module _ (lines : Lines) (from : ℕ) (e : Event) (at to : ℕ) where
  pub take_full : lines.store.full ≡ true → (next : Lines) → Taken lines from e at to (Err (record { fault = too_many; place = at })) next
  take_full f next s es l before c k g n = told_many s at es l to g (many_full es (with_store lines before) k l lines.store e n f)

  pub take_many : 128 ≤ lines.events → (next : Lines) → Taken lines from e at to (Err (record { fault = too_many; place = at })) next
  take_many h next s es l before c k g n = told_many s at es l to g (many_events es (with_store lines before) k l lines.store e n h)

  module _ (f : lines.store.full ≡ false) (room : lines.events < 128) where
    pub take_loose : LooseSays from lines.store e true → (next : Lines) → Taken lines from e at to (Err (record { fault = LooseVariable; place = at })) next
    take_loose x next s es l before c k g n =
        told_loose s at es l to g (not_many es (with_store lines before) k l lines.store e n f room)
        (loose_yes es (with_store lines before) k l lines.store e n f (subst (λ i. LooseSays i lines.store e true) (sym c) x))

    pub take_line : LooseSays from lines.store e false → (next : Lines) → next ≡ with_event lines lines.store e → Taken lines from e at to (Ok to) next
    take_line x next z s es l before c k g n =
        let was = with_store lines before in
        let tied = loose_no es was k l lines.store e n f (subst (λ i. LooseSays i lines.store e false) (sym c) x) in
        (l, g, not_many es was k l lines.store e n f room, tied, subst (Kept (es ++ (line_says l ∷ []))) (sym z) (kept_next es was k l lines.store e n f room tied))

-- ---- the text

-- The lines before `at` say entries; what is told from there on is told of the text.
pub record TextAt (s : List ℕ) (lines : Lines) (at : ℕ) : Type 0 where
  pub entries : List Entry
  pub kept : Kept entries lines
  pub tells : (o : text.Outcome) → Told entries at (drop at s) o → Told [] 0 s o

pub text_start : (s : List ℕ) (lines : Lines) → Kept [] lines → TextAt s lines 0
text_start s lines k = record { entries = []; kept = k; tells = λ o t. t }

line_behind : {s : List ℕ} {at to : ℕ} (l : Line) → Finds line s at (read l to) → at < to
line_behind (learn l) (reads _ _ r h) = omega (arith, r.end)
line_behind (make l) (reads _ _ r h) = omega (arith, r.end)

module _ (s : List ℕ) (lines : Lines) (at : ℕ) (a : TextAt s lines at) (after : Lines) where
  pub text_refused : (before : List ℕ) (r : Refusal) → LineRead s at lines (Err r) after → TextReply Refused Written s before (Err r) before
  text_refused before r f =
      let e : Refused (number_of r.fault) r.place ≡ Err r = ap (λ x. Err (record { fault = x; place = r.place })) (fault_numbered r.fault) in
      subst (λ x. TextReply Refused Written s before x before) e (record { outcome = refused _ _; told = a.tells (refused (number_of r.fault) r.place) (f a.entries a.kept); replied = refusal _ _ })

  module _ (to : ℕ) (f : LineRead s at lines (Ok to) after) where
    took : LineSays s at a.entries (Ok to) after
    took = f a.entries a.kept

    pub text_behind : at < to
    text_behind = line_behind took.0 took.1

    pub text_next : TextAt s after to
    text_next = record { entries = a.entries ++ (line_says took.0 ∷ []); kept = took.4; tells = λ o t. a.tells o (told_line s at a.entries took.0 to took.1 o took.2 took.3 t) }

pub text_end : (s : List ℕ) (lines : Lines) (at : ℕ) (a : TextAt s lines at) → length s ≤ at → Told [] 0 s (said a.entries)
text_end s lines at a h = a.tells (said a.entries) (told_end s at a.entries h)
