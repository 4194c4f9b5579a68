-- Cells and events in words, as lists.
use Rattle.std.specs.Prelude.{List, [], ◌∷◌, ◌++◌, ℕ, zero, suc, get_or}
use Rattle.model.specs.Case.{Event}
use Rattle.model.specs.Stored.{event_in}

-- The first n of a numbered sequence.
unfoldable pub up_to : {A : Type 0} → (ℕ → A) → ℕ → List A
up_to f zero = []
up_to f (suc n) = up_to f n ++ (f n ∷ [])

-- The events in words.
abbrev pub events_in : List ℕ → ℕ → Event
events_in run p = event_in (get_or run p 0)
