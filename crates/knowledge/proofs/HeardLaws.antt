-- What he can build from all that is learnt: the marks of learnt cells event by event, what the opened marks say of a table without variables, and of a file.
use mathlib.Core.Path.{◌≡◌, sym, ◌∙◌, ap}
use mathlib.Core.Logic.{◌↔◌}
use mathlib.Core.List.{List}
use mathlib.Core.Option.{some, none}
use Prim.Native.Nat.{ℕ, ◌+◌, ◌≤◌, ◌<◌}
use lib.ListN.{length, get_or}
use Rattle.model.specs.Message.{Message, atom}
use Rattle.model.specs.Case.{VA, Event, MK, LN, File, Ground, table_of, run_of}
use Rattle.model.specs.Format.{read_file, accepted, first_variable}
use Rattle.model.specs.Replies.{messages_of}
use Rattle.model.specs.Stored.{table_in, event_in, run_in}
use Rattle.model.proofs.Read.{clash, message_reads}
use Rattle.model.proofs.Stored.{run_at, run_below}
use Rattle.model.proofs.Accepted.{accepted_file}
use Rattle.model.proofs.Variables.{Solid, no_variable}
use Rattle.theory.specs.Cells.{TableWords, class_at}
use Rattle.theory.proofs.Rows.{rows_formed}
use Rattle.theory.proofs.Sweep.{mark_later}
use Rattle.classes.specs.Twins.{Start}
use Rattle.classes.proofs.TwinLaws.{start_twins}
use Rattle.knowledge.specs.declared.Marks.{Marks}
use Rattle.knowledge.specs.declared.heard.Knowledge.{Knowledge}
use Rattle.knowledge.specs.Knowledge.{ClassRow, Learns, Starts, Opened}
use Rattle.knowledge.specs.Heard.{LearntAll, HeardOpened, FileKnown}
use Rattle.knowledge.proofs.ClassRows.{kept_row}
use Rattle.knowledge.proofs.Grow.{no_marks, none_marked}
use Rattle.knowledge.proofs.Start.{starts_none, starts_same, starts_learn}
use Rattle.knowledge.proofs.Ground.{built_iff_heard}

-- ---- event by event

module _ {n : ℕ} {rep : List ℕ} (w : ClassRow n rep) (m : ℕ) (run : List ℕ) where
  pub learnt_none : LearntAll rep (run_in m run) 0 no_marks
  learnt_none = record { marked = none_marked; starts = λ T. starts_none T w (run_in m run) }

  module _ (p : ℕ) (h : p < m) {s : List ℕ} (all : LearntAll rep (run_in m run) p s) where
    at : {e : Event} → event_in (get_or run p 0) ≡ e → run_in m run p ≡ some e
    at i = run_at m run p h ∙ ap some i

    -- An MK adds nothing.
    pub learnt_make : {x : ℕ} → event_in (get_or run p 0) ≡ MK x → LearntAll rep (run_in m run) (p + 1) s
    learnt_make e = record { marked = all.marked; starts = λ T. starts_same T w (run_in m run) p (all.starts T) (λ c i. make≢learn (sym (at e) ∙ i)) }
      where
        make≢learn : {x y : ℕ} → some (MK x) ≡ some (LN y) → ⊥
        make≢learn i = clash (cc)

    -- An LN adds the class of its cell.
    pub learnt_learn : {x : ℕ} {r : List ℕ} → event_in (get_or run p 0) ≡ LN x → Learns rep s x r → LearntAll rep (run_in m run) (p + 1) r
    learnt_learn {x} e l = record { marked = l.marked; starts = λ T. starts_learn T w (run_in m run) p (all.starts T) x (at e) l }

-- ---- the first classes, opened

pub heard_opened : {n : ℕ} {words rep start : List ℕ} {r : Marks} → TableWords n words → Start n (table_in words) rep → (m : ℕ) (run : List ℕ) →
    m ≤ 128 → LearntAll rep (run_in m run) m start → Opened (table_in words) rep start r →
    HeardOpened n (table_in words) (run_in m run) (record { rep = rep; built = r.built })
heard_opened {n} {words} {rep} {start} w s m run few all o = record {
  classes = s;
  built_marked = o.built_marked;
  made = o.built (run_in m run) 128 behind;
  exact = exact;
  built = λ solid msg g. built_iff_heard o (run_in m run) m (all.starts (table_in words)) (kept_row w s.solved.kept) (rows_formed w) solid msg g
      (exact solid msg g) (λ q c i. run_below m run q i);
}
  where
    exact : ((c : ℕ) → table_in words c ≡ VA → ⊥) → (msg : ℕ → Message) → Ground (table_in words) msg → (c d : ℕ) → (msg c ≡ msg d) ↔ (class_at rep c ≡ class_at rep d)
    exact = start_twins n (table_in words) rep s

    -- Behind all events the same is learnt.
    behind : Starts (table_in words) rep (run_in m run) 128 start
    behind = record {
      low = λ c (q, lt, e). (all.starts (table_in words)).low c (q, run_below m run q e, e);
      high = λ c x. mark_later (table_in words) (class_at rep) (run_in m run) m s.solved.kept.reps.idem few ((all.starts (table_in words)).high c x);
    }

-- ---- of an accepted file

-- Without variables the classes and marks that are found speak of the file's messages.
pub file_known : (s : List ℕ) (f : File) → read_file s ≡ accepted f → {r : Knowledge} → first_variable f.cells ≡ none →
    HeardOpened (length f.cells) (table_of f.cells) (run_of f.events) r → FileKnown f r
file_known s f e free o = record {
  classes = o.classes;
  built_marked = o.built_marked;
  exact = o.exact solid (messages_of f) reads;
  built = o.built solid (messages_of f) reads;
}
  where
    solid : Solid f.cells
    solid = (no_variable f.cells).0 free

    reads : Ground (table_of f.cells) (messages_of f)
    reads = message_reads (table_of f.cells) (λ c. atom 0) (accepted_file s f e).lower
