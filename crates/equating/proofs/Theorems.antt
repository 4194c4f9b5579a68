-- The main theorems of this crate, each cited with its full statement: what the promise says of a reply, and that it settles the reply.
use mathlib.Core.Path.{◌≡◌}
use mathlib.Core.List.{List}
use mathlib.Core.Logic.{◌↔◌}
use Prim.Native.Nat.{ℕ, ◌<◌}
use lib.ListN.{length, get_or, take, drop}
use Rattle.model.specs.Message.{Message}
use Rattle.model.specs.Case.{VA, File, table_of, message}
use Rattle.model.specs.Values.{Ends}
use Rattle.model.specs.Format.{read_file, accepted}
use Rattle.model.specs.Replies.{EquatedBy, NeverEqual, SameButList}
use Rattle.model.proofs.Accepted.{accepted_file}
use Rattle.model.proofs.Read.{message_self}
use Rattle.std.specs.Prelude.{Option, Some, None, Result, Ok}
use Rattle.refusals.specs.declared.Refusal.{Refusal}
use Rattle.equating.specs.Promise.{Answered, EquatePromise}
use Rattle.equating.proofs.PromiseLaws.{equated_values, never_equated, listed_front, no_of_never, settled}

-- Two replies, with their buffers, that meet the promise for one input are equal but for which list is shown.
pub equate_settled : (file : List ℕ) (a b : ℕ) (before : List ℕ) (r r' : Result (Option ℕ) Refusal) (after after' : List ℕ) →
    EquatePromise file a b before r after → EquatePromise file a b before r' after' → (r ≡ r') × SameButList (λ f. EquatedBy f a b) file before after after'
equate_settled = settled

-- The list read as equalities holds under the values ρ.
abbrev pub HoldsUnder : File → List ℕ → (ℕ → Message) → Type 0
HoldsUnder f list ρ = (v : ℕ) → table_of f.cells v ≡ VA → message (table_of f.cells) ρ v ≡ message (table_of f.cells) ρ (get_or list v v)

module _ (file : List ℕ) (a b : ℕ) (before : List ℕ) (reply : Result (Option ℕ) Refusal) (after : List ℕ) (p : EquatePromise file a b before reply after) (f : File) (q : Answered file a b before f) where
  -- The list in the buffer: values under which it holds make the two cells equal,
  pub equate_sound : reply ≡ Ok (Some (length f.cells)) → (ρ : ℕ → Message) → HoldsUnder f (take (length f.cells) after) ρ →
      message (table_of f.cells) ρ a ≡ message (table_of f.cells) ρ b
  equate_sound e ρ = ((listed_front file a b before reply after p f q e).0.equates.exact _ (message_self (table_of f.cells) ρ (accepted_file file f q.asked.read).lower)).1

  -- it holds under all values that make the two cells equal,
  pub equate_general : reply ≡ Ok (Some (length f.cells)) → (ρ : ℕ → Message) → message (table_of f.cells) ρ a ≡ message (table_of f.cells) ρ b →
      HoldsUnder f (take (length f.cells) after) ρ
  equate_general e ρ = ((listed_front file a b before reply after p f q e).0.equates.exact _ (message_self (table_of f.cells) ρ (accepted_file file f q.asked.read).lower)).0

  -- and following it never comes round again.
  pub equate_acyclic : reply ≡ Ok (Some (length f.cells)) → (c : ℕ) → Ends (table_of f.cells) (λ v. get_or (take (length f.cells) after) v v) c
  equate_acyclic e = (listed_front file a b before reply after p f q e).0.equates.ends

  -- Each entry is the number of a cell of the file.
  pub equate_names_cells : reply ≡ Ok (Some (length f.cells)) → (c : ℕ) → c < length f.cells → get_or (take (length f.cells) after) c c < length f.cells
  equate_names_cells e = (listed_front file a b before reply after p f q e).0.cells

  -- No byte beyond it is touched.
  pub equate_kept : reply ≡ Ok (Some (length f.cells)) → drop (length f.cells) after ≡ drop (length f.cells) before
  equate_kept e = (listed_front file a b before reply after p f q e).1

  -- "No" exactly if no values make the two cells equal.
  pub equate_complete : (reply ≡ Ok None) ↔ NeverEqual f a b
  equate_complete = (λ e. (p.no f q e).0, no_of_never file a b before reply after p f q)

-- A list that equates two cells of a file comes with values that make them equal: so "no" and a list exclude each other.
pub equated_exists : (file : List ℕ) (f : File) (a b : ℕ) (list : List ℕ) → read_file file ≡ accepted f → EquatedBy f a b list →
    (ρ : ℕ → Message) × (message (table_of f.cells) ρ a ≡ message (table_of f.cells) ρ b)
equated_exists = equated_values

pub no_list_with_no : (file : List ℕ) (f : File) (a b : ℕ) (list : List ℕ) → read_file file ≡ accepted f → NeverEqual f a b → EquatedBy f a b list → ⊥
no_list_with_no = never_equated
