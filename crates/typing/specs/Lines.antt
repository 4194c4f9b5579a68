-- What the reader of lines finds, what the lines so far say, and what comes of a line.
-- Matched, WordRead: words; RestRead, LineFoundAs: lines; Kept: the entries of the lines so far, as they are stored; LooseSays, Taken, LineRead: refusals 4 and 6, or one more entry.
use Rattle.std.specs.Prelude.{◌≡◌, Bool, false, ℕ, ◌+◌, ◌≤◌, ◌<◌, length, get_or, drop, take, set, Result, Ok, Err}
use mathlib.Core.List.{List, [], ◌∷◌, ◌++◌, Memᴰ}
use Rattle.refusals.specs.declared.Refusal.{Refusal}
use Rattle.refusals.specs.Numbers.{number_of}
use Rattle.model.specs.Case as case
use Rattle.model.specs.Case.{VA, MK, LN}
use Rattle.model.specs.Stored.{event_word, aim, table_in}
use Rattle.theory.specs.Decides.{Decides}
use Rattle.cells.specs.Cells.{as_event}
use Rattle.cells.specs.declared.Event.{Event}
use Rattle.cells.specs.declared.Event.TheVariants as event
use Rattle.grammar.specs.Typed.{Typed, variable, Entry, Holds}
use Rattle.grammar.specs.Grammar.{Line, learn, make, nested, list_of, list_says, line_says}
use Rattle.grammar.specs.Filed.{trees_of, file_of, TooMany, is_loose}
use Rattle.grammar.specs.Text.{refused, Told}
use Rattle.grammar.specs.Reader.{Runs, Finds, read, line, token}
use Rattle.typing.specs.declared.store.Store.{Store}
use Rattle.typing.specs.declared.line.Lines.{Lines}
use Rattle.typing.specs.declared.line.Word.{Word}
use Rattle.typing.specs.declared.line.Word.TheVariants as word
use Rattle.typing.specs.Store.{In, Sound, WordsOf}
use Rattle.typing.specs.Readers.{Misread, Completes}

-- ---- what is found

-- The first r bytes of the word stand at `at`, and the next one does not.
pub record Matched (s : List ℕ) (at : ℕ) (w : List ℕ) (r : ℕ) : Type 0 where
  pub short : r ≤ length w
  pub within : at + r ≤ length s
  pub runs : Runs s at (at + r) (nested 0 (take r w))
  pub stops : r < length w → (at + r < length s) × (get_or s (at + r) 0 ≡ get_or w r 0) → ⊥

-- The bytes of a word and its space.
abbrev pub spelling : Word → List ℕ
spelling word.Learn = 108 ∷ 101 ∷ 97 ∷ 114 ∷ 110 ∷ 32 ∷ []
spelling word.Make = 109 ∷ 97 ∷ 107 ∷ 101 ∷ 32 ∷ []

-- The word that stands at `at`; or the first byte at fault.
abbrev pub WordRead : List ℕ → ℕ → Result (Word × ℕ) Refusal → Type 0
WordRead s at (Ok (w, to)) = Finds (token 0 (spelling w)) s at (read tt to) × (to ≤ length s)
WordRead s at (Err r) = Misread line s at r

-- The event of a line, by its word and the cell of its list.
abbrev pub event_of : Word → ℕ → Event
event_of word.Learn c = event.Learn c
event_of word.Make c = event.Make c

-- What is found of a line, by its word and what is found behind it.
abbrev pub found_for : Word → Result (ℕ × ℕ) Refusal → Result (ℕ × Event) Refusal
found_for w (Ok (to, c)) = Ok (to, event_of w c)
found_for w (Err r) = Err r

-- The event of a line whose list is the cell c.
abbrev pub event_for : Line → ℕ → case.Event
event_for (learn l) c = LN c
event_for (make l) c = MK c

-- The cells of the line's list are entered, and the event is that of the line.
pub record Entering (before : Store) (l : Line) (after : Store) (e : Event) : Type 0 where
  pub completes : Completes before (list_says (list_of l)) after (aim (as_event e))
  pub event : as_event e ≡ event_for l (aim (as_event e))

-- What is found of the line at `at`, and what is entered.
abbrev pub LineFoundAs : List ℕ → ℕ → Store → Result (ℕ × Event) Refusal → Store → Type 0
LineFoundAs s at before (Ok (to, e)) after = (l : Line) × Finds line s at (read l to) × Entering before l after e
LineFoundAs s at before (Err r) after = Misread line s at r

-- What is found of the line at i, whose word ends at `at`, from there on.
abbrev pub RestRead : List ℕ → ℕ → Store → Result (ℕ × ℕ) Refusal → Store → Type 0
RestRead s at before r after = (w : Word) (i : ℕ) → Finds (token 0 (spelling w)) s i (read tt at) → LineFoundAs s i before (found_for w r) after

-- ---- what the lines so far say

-- The lines say the entries: their cells, none of them loose, and their events are stored.
pub record Kept (es : List Entry) (lines : Lines) : Type 0 where
  pub sound : Sound (trees_of es)
  pub room : lines.store.full ≡ false
  pub cells : WordsOf (trees_of es) lines.store.words lines.store.count
  pub counts : lines.events ≡ length es
  pub few : length es ≤ 128
  pub long : length lines.run ≡ 128
  pub run : (p : ℕ) → p < length es → get_or lines.run p 0 ≡ event_word (get_or (file_of es).events p (MK 0))
  -- each variable stands in a message that was to be made
  pub made : (n : ℕ) → In (trees_of es) (variable n) → (u : Typed) × Memᴰ (Entry.make u) es × Holds n u

-- ---- what comes of a line

-- For an LN: is one of the new cells, those from `from` on, a variable?
abbrev pub LooseSays : ℕ → Store → Event → Bool → Type 0
LooseSays from s (event.Make c) r = r ≡ false
LooseSays from s (event.Learn c) r = Decides r ((v : ℕ) × (from ≤ v) × (v < s.count) × (table_in s.words v ≡ VA))

-- One more event, with its cells.
abbrev pub with_event : Lines → Store → Event → Lines
with_event lines s e = record { store = s; run = set lines.run lines.events (event_word (as_event e)); events = lines.events + 1 }

-- A refusal is the text's outcome; or the line is taken.
abbrev pub LineSays : List ℕ → ℕ → List Entry → Result ℕ Refusal → Lines → Type 0
LineSays s at es (Err r) after = Told es at (drop at s) (refused (number_of r.fault) r.place)
LineSays s at es (Ok to) after =
    (l : Line) × Finds line s at (read l to) × (TooMany (es ++ (line_says l ∷ [])) → ⊥) × (is_loose es (line_says l) ≡ false) × Kept (es ++ (line_says l ∷ [])) after

-- What comes of a line that was read, whatever entries are kept; its cells, from `from` on, are entered.
abbrev pub Taken : Lines → ℕ → Event → ℕ → ℕ → Result ℕ Refusal → Lines → Type 0
Taken lines from e at to r after = (s : List ℕ) (es : List Entry) (l : Line) (before : Store) → before.count ≡ from →
    Kept es (record { store = before; run = lines.run; events = lines.events }) → Finds line s at (read l to) → Entering before l lines.store e → LineSays s at es r after

-- What comes of the line at `at`.
abbrev pub LineRead : List ℕ → ℕ → Lines → Result ℕ Refusal → Lines → Type 0
LineRead s at lines r after = (es : List Entry) → Kept es lines → LineSays s at es r after
