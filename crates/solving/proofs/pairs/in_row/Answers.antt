-- The first of the row that passes the test.
use mathlib.Core.List.{List}
use Prim.Native.Nat.{ℕ, ◌≤◌, ◌<◌}
use borrow.Author.Rules.{rules}
use borrow.Author.Tests.{tests}
use Rattle.std.specs.Prelude.{Option, Some, None, MatchOption}
use Rattle.std.proofs.lemmas.Iterator.{first_from_Range}
use Rattle.model.specs.Case.{Table}
use Rattle.model.specs.Stored.{table_in}
use Rattle.solving.specs.Pairs.{Pairs, InRow}
use Rattle.solving.proofs.pairs.in_row.Goals as goal

first_in_row : (T : Table) (n : ℕ) (rep want bare : List ℕ) (c from : ℕ) (r : Option ℕ) → MatchOption r ((d : ℕ) → from ≤ d → d < n → Pairs T rep want bare c d → ⊥)
    (λ d. (from ≤ d) × (d < n) × Pairs T rep want bare c d × ((x : ℕ) → from ≤ x → x < d → Pairs T rep want bare c x → ⊥)) → InRow T n rep want bare c from r
first_in_row T n rep want bare c from (Some d) found = found
first_in_row T n rep want bare c from None none = none

pub returns : goal.returns
returns c =
    let a = c.args in
    let is_pair : ℕ → Type 0 = λ d. Pairs (table_in a.table.now.words) a.rep.now a.want.now a.bare.now a.from.c d in
    first_in_row (table_in a.table.now.words) a.table.now.count a.rep.now a.want.now a.bare.now a.from.c a.from.d c.find.result
    (first_from_Range _ _ _ c.find.result is_pair (λ d. is_pair d → ⊥) c.find.ensures.ran (λ x q k. search (rules, tests)) (λ x q k. search (rules, tests)))
