-- The loop's invariant: best is c or a fellow, and if the links are right, no cell that they have led past is a lower one.
use mathlib.Core.Path.{◌≡◌}
use Prim.Native.Nat.{◌≤◌, ◌<◌}
use Rattle.model.specs.Stored.{table_in}
use Rattle.theory.specs.Cells.{class_at}
use Rattle.theory.specs.Classes.{Alike}
use Rattle.classes.specs.Links.{Leads}
use Rattle.classes.proofs.LinkLaws.{Walk}
use Rattle.classes.proofs.upward.fellow.Given as goal

abbrev pub invariant-loop-at : goal.invariant-loop-at
invariant-loop-at l =
    (l.at ≤ l.c) × (l.best ≤ l.c) ×
    (l.best < l.c → (class_at l.rep l.best ≡ l.best) × Alike (class_at l.rep) (table_in l.table.words l.c) (table_in l.table.words l.best)) ×
    (Leads (table_in l.table.words) (class_at l.rep) l.links l.top l.c → Walk (table_in l.table.words) (class_at l.rep) l.c l.at l.best)

abbrev pub decreases-loop-at : goal.decreases-loop-at
decreases-loop-at l = l.at
