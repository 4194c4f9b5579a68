-- The main theorems of this crate, each cited with its full statement.
use mathlib.Core.Path.{◌≡◌}
use mathlib.Core.Logic.{◌↔◌}
use mathlib.Core.List.{List, Memᴰ}
use Prim.Native.Nat.{ℕ, ◌+◌, ◌≤◌}
use lib.ListN.{length, get_or, take}
use Rattle.model.specs.Message.{Message, Bounded, Built}
use Rattle.model.specs.Case.{VA, File, Table, Run, table_of, run_of, Reads, message, Lower, Within, Right}
use Rattle.model.specs.Values.{RightValues, cell_of, Form, RightList}
use Rattle.model.specs.Format.{held, accepted, read_from, read_file, file_bytes}
use Rattle.model.specs.Replies.{HeardOf}
use Rattle.model.proofs.Accepted.{Accepted, accepted_file, Bytes}
use Rattle.model.proofs.Bounded.{same_bounded}
use Rattle.model.proofs.Follow.{Followed, right_iff_followed, form_solid, cells_end}
use Rattle.model.proofs.Fuel.{Few, fuel_enough}
use Rattle.model.proofs.Held.{held_within}
use Rattle.model.proofs.Prefix.{read_file_prefix}
use Rattle.model.proofs.Written.{written_read}
use Rattle.model.proofs.Steps.{built_built, built_more}
use Rattle.model.proofs.Read.{message_reads, reads_one, right_values, values_right}
use Rattle.model.proofs.Claims.{Holds, starred, All}
use Rattle.model.proofs.Starred.{starred_hold}

-- What the cells show under values is a reading of the table.
pub reading_exists : (T : Table) (ρ : ℕ → Message) → Lower T → Reads T ρ (message T ρ)
reading_exists = message_reads

-- There is one reading under given values.
pub reading_one : (T : Table) (ρ m m' : ℕ → Message) → Lower T → Reads T ρ m → Reads T ρ m' → (c : ℕ) → m c ≡ m' c
reading_one = reads_one

-- Some values are right exactly if some reading is right.
pub right_iff_reading : (T : Table) (ev : Run) → Lower T → ((ρ : ℕ → Message) × RightValues T ev ρ) ↔ ((m : ℕ → Message) × Reads T m m × Right ev m)
right_iff_reading T ev low = ((λ (ρ, r). values_right T ev low ρ r), (λ (m, reads, r). (m, right_values T ev low m reads r)))

-- From more known messages more is built.
pub built_from_more : {K L : Message → Type 0} → ((x : Message) → K x → L x) → {x : Message} → Built K x → Built L x
built_from_more = built_more

-- What is built from built messages is built.
pub built_from_built : {K L : Message → Type 0} → ((x : Message) → K x → Built L x) → {x : Message} → Built K x → Built L x
built_from_built = built_built

-- The computed list of the variables that a cell holds has exactly those that stand in it.
pub held_iff_within : (T : Table) → Lower T → (v c : ℕ) → Memᴰ v (held T c) ↔ ((T v ≡ VA) × Within T v c)
held_iff_within = held_within

-- An accepted file has at most 128 cells and 128 events, parts lower than their cells, events that name cells, and no LN with a variable that no earlier MK held.
pub accepted_is_formed : (s : List ℕ) (f : File) → read_file s ≡ accepted f → Accepted f
accepted_is_formed = accepted_file

-- The bytes of such a file are read as that file.
pub written_is_read : (f : File) → Accepted f → read_file (file_bytes f) ≡ accepted f
written_is_read = written_read

-- What a file is read as depends on its first 899 bytes only.
pub read_from_prefix : (s : List ℕ) → read_file s ≡ read_file (take 899 s)
read_from_prefix = read_file_prefix

-- The bound on the number of records is never met: any larger one gives the same reading.
pub read_enough : (n m : ℕ) (rest : List ℕ) (at : ℕ) (f : File) → Few f → 257 ≤ n + length f.cells + length f.events → 257 ≤ m + length f.cells + length f.events →
    read_from n rest at f ≡ read_from m rest at f
read_enough = fuel_enough

-- A value list in good form is right exactly if following it from every cell ends, and the messages it comes to are right.
pub right_list_iff_followed : (s : List ℕ) (f : File) (list : List ℕ) → read_file s ≡ accepted f → Form (table_of f.cells) (length f.cells) list →
    RightList (table_of f.cells) (run_of f.events) (λ v. cell_of (get_or list v 0)) ↔ Followed f list
right_list_iff_followed s f list e form =
    right_iff_followed (table_of f.cells) (λ v. cell_of (get_or list v 0))
    (form_solid (table_of f.cells) (length f.cells) list (accepted_file s f e).few_cells (cells_end f.cells) form) (run_of f.events)

-- Two files let him build the same messages with names below 65,536 and functions below 256 only if they let him build the same of all.
pub same_of_the_format : (s s' : List ℕ) (f g : File) → Bytes s → Bytes s' → read_file s ≡ accepted f → read_file s' ≡ accepted g →
    ((x : Message) → Bounded x → Built (HeardOf f) x ↔ Built (HeardOf g) x) → (x : Message) → Built (HeardOf f) x ↔ Built (HeardOf g) x
same_of_the_format = same_bounded

-- What is claimed of each starred file holds of the definitions.
pub starred_files : All Holds starred
starred_files = starred_hold
