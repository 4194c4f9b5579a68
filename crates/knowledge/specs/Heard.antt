-- What he can build from all that is learnt, for a table without variables: what build marks and reducing stand on.
-- LearntAll: the marks of all learnt cells; HeardOpened: the classes and marks that are found; FileKnown: the same of a file.
use Rattle.std.specs.Prelude.{◌≡◌, ◌↔◌, List, ℕ, length}
use Rattle.model.specs.Message.{Message, Built}
use Rattle.model.specs.Case.{VA, Table, Run, File, Heard, Ground, table_of}
use Rattle.model.specs.Replies.{messages_of, HeardOf}
use Rattle.theory.specs.Cells.{class_at, On}
use Rattle.theory.specs.Level.{Mark, built}
use Rattle.classes.specs.Twins.{Start}
use Rattle.knowledge.specs.declared.heard.Knowledge.{Knowledge}
use Rattle.knowledge.specs.Knowledge.{MarkRow, Starts}

-- The marks r hold what is learnt before position p, and only what is seen there.
pub record LearntAll (rep : List ℕ) (ev : Run) (p : ℕ) (r : List ℕ) : Type 0 where
  pub marked : MarkRow rep r
  pub starts : (T : Table) → Starts T rep ev p r

-- Of a table T of n cells and a run: the first class array, and marks on the cells that stand for their class. Without variables cells are of one class exactly if
-- they show one message, and the mark of its class says of a cell whether its message can be built from all that is learnt. A run has at most 128 events, so position 128
-- is behind all of them.
pub record HeardOpened (n : ℕ) (T : Table) (ev : Run) (r : Knowledge) : Type 0 where
  pub classes : Start n T r.rep
  pub built_marked : MarkRow r.rep r.built
  pub made : (c : ℕ) → On r.built (class_at r.rep c) ↔ Mark T (class_at r.rep) ev 128 built c
  pub exact : ((c : ℕ) → T c ≡ VA → ⊥) → (m : ℕ → Message) → Ground T m → (c d : ℕ) → (m c ≡ m d) ↔ (class_at r.rep c ≡ class_at r.rep d)
  pub built : ((c : ℕ) → T c ≡ VA → ⊥) → (m : ℕ → Message) → Ground T m → (c : ℕ) → On r.built (class_at r.rep c) ↔ Built (Heard ev m) (m c)

-- The same of the messages of a file without variables.
pub record FileKnown (f : File) (r : Knowledge) : Type 0 where
  pub classes : Start (length f.cells) (table_of f.cells) r.rep
  pub built_marked : MarkRow r.rep r.built
  pub exact : (c d : ℕ) → (messages_of f c ≡ messages_of f d) ↔ (class_at r.rep c ≡ class_at r.rep d)
  pub built : (c : ℕ) → On r.built (class_at r.rep c) ↔ Built (HeardOf f) (messages_of f c)
