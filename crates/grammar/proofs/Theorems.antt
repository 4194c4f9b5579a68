-- The main theorems of this crate, each cited with its full statement.
use mathlib.Core.Path.{◌≡◌}
use mathlib.Core.Logic.{◌↔◌}
use mathlib.Core.Bool.{false}
use mathlib.Core.Option.{some}
use mathlib.Core.List.{List, [], ◌++◌, map}
use Prim.Native.Nat.{ℕ, ◌<◌}
use lib.ListN.{length, get_elem?}
use Rattle.model.specs.Message.{Message}
use Rattle.model.specs.Case.{table_of, run_of, message}
use Rattle.model.specs.Format.{read_file, accepted, joined, file_bytes}
use Rattle.model.specs.Stored.{aim}
use Rattle.grammar.specs.Typed.{Typed, shows, PartOf, Entry, learn, tree_of}
use Rattle.grammar.specs.Grammar.{Line, Text, bytes_of, line_text, line_bytes, line_says, Fault}
use Rattle.grammar.specs.Filed.{completions, trees_of, place, event_of, file_of, is_loose}
use Rattle.grammar.specs.Text.{Outcome, said, Front, Told, TextReply}
use Rattle.grammar.proofs.Settled.{one_line, one_nesting, one_fault, front_no_fault, one_outcome, text_settled}
use Rattle.grammar.proofs.Trees.{tree_at, grown_trees}
use Rattle.grammar.proofs.Filed.{place_at, part_lower, by_number, Backed}
use Rattle.grammar.proofs.Order.{Firsts, trees_firsts}
use Rattle.grammar.proofs.Taken.{Bounded, AllShallow, said_accepted, events_show, accepted_texts, tied_backed}

-- ---- lines

-- Each line has one reading, whatever stands behind it, and its bytes one nesting each.
pub reading_one : (l l' : Line) (x y : List ℕ) → line_bytes l ++ x ≡ line_bytes l' ++ y → (line_says l ≡ line_says l') × (line_text l ≡ line_text l') × (x ≡ y)
reading_one = one_line

-- The bytes up to a place tell its nesting, however the line goes on.
pub nesting_one : (l l' : Line) (w v P Q : Text) → line_text l ≡ w ++ P → line_text l' ≡ v ++ Q → bytes_of w ≡ bytes_of v → w ≡ v
nesting_one = one_nesting

-- The first byte at fault is one, with one number: 11 and 12 are never both told.
pub fault_one : (text : List ℕ) (n m i j : ℕ) → Fault text n i → Fault text m j → (n ≡ m) × (i ≡ j)
fault_one = one_fault

-- Where a line within the bound stands there is no fault.
pub fault_none : (text : List ℕ) (l : Line) (rest : List ℕ) (n i : ℕ) → Front text l rest → Fault text n i → ⊥
fault_none = front_no_fault

-- ---- texts

-- The texts that are accepted are exactly the lines of the grammar, none nested deeper than 16, with at most 128 cells and 128 events, and each variable of a learnt message in one made before.
pub accepted_iff_lines : (text : List ℕ) (es : List Entry) →
    Told [] 0 text (said es) ↔ ((ls : List Line) × AllShallow ls × (text ≡ joined line_bytes ls) × (es ≡ map line_says ls) × Bounded es)
accepted_iff_lines = accepted_texts

-- A learnt message is not refused with 6 exactly if each of its variables stands in a message made before.
pub tied_iff_backed : (es : List Entry) (t : Typed) → (is_loose es (learn t) ≡ false) ↔ Backed es t
tied_iff_backed = tied_backed

-- A text has one outcome.
pub outcome_one : {es : List Entry} {at : ℕ} {text : List ℕ} {o o' : Outcome} → Told es at text o → Told es at text o' → o ≡ o'
outcome_one = one_outcome

-- Two replies to a text that keep the promise are equal, and so are the buffers; there is no exception.
pub reply_settled : {R : Type 0} (Refused : ℕ → ℕ → R) (Written : ℕ → R) (text before : List ℕ) (r r' : R) (after after' : List ℕ) → TextReply Refused Written text before r after →
    TextReply Refused Written text before r' after' → (r ≡ r') × (after ≡ after')
reply_settled = text_settled

-- ---- the file

-- The file of an accepted text is accepted by the reader of case files.
pub file_accepted : (text : List ℕ) (es : List Entry) → Told [] 0 text (said es) → read_file (file_bytes (file_of es)) ≡ accepted (file_of es)
file_accepted = said_accepted

-- Its events are those of the lines. Under any values of its variables' cells each shows what was typed, the variable n having the value of its cell.
pub file_shows : (es : List Entry) (p : ℕ) (e : Entry) → get_elem? es p ≡ some e →
    (run_of (file_of es).events p ≡ some (event_of (trees_of es) e))
    × ((σ : ℕ → Message) → message (table_of (file_of es).cells) σ (aim (event_of (trees_of es) e)) ≡ shows (by_number (trees_of es) σ) (tree_of e))
file_shows = events_show

-- The messages of its cells are exactly what the lines complete, in order of first completion;
pub cells_in_order : (es : List Entry) → Firsts (completions es) (trees_of es)
cells_in_order = trees_firsts

-- no message has two cells,
pub cells_once : (es : List Entry) (c : ℕ) → c < length (trees_of es) → place (trees_of es) (tree_at (trees_of es) c) ≡ c
cells_once es = place_at (grown_trees es)

-- and the parts of each stand before it.
pub parts_first : (es : List Entry) (c : ℕ) (u : Typed) → PartOf (tree_at (trees_of es) c) u → place (trees_of es) u < c
parts_first es c u p = (part_lower (grown_trees es) c u p).1
