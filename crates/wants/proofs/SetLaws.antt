-- The rows of one step have the sets of the step.
use mathlib.Core.Path.{◌≡◌, sym, subst}
use mathlib.Core.List.{List}
use mathlib.Core.Option.{some}
use Prim.Native.Nat.{ℕ}
use lib.ListN.{get_or}
use Rattle.model.specs.Case.{MK, Table}
use Rattle.model.specs.Stored.{table_in, event_in, run_in}
use Rattle.model.proofs.Stored.{run_at, run_below}
use Rattle.theory.specs.Cells.{TableWords, Opening, class_at, On}
use Rattle.theory.specs.Cut.{Sets}
use Rattle.theory.specs.Sweep.{Swept}
use Rattle.theory.proofs.MarkRows.{on?}
use Rattle.knowledge.specs.Knowledge.{ClassRow}
use Rattle.wants.specs.Sets.{NeedRow, HeldRow, OverRow}

-- What is to be made at q, by the word there.
make_at : (count : ℕ) (run : List ℕ) (q : ℕ) {t : ℕ} → run_in count run q ≡ some (MK t) → event_in (get_or run q 0) ≡ MK t
make_at count run q e = let z = run_at count run q (run_below count run q e) in cc

module _ {n : ℕ} {words : List ℕ} (w : TableWords n words) where
  abbrev T : Table
  T = table_in words

  module _ {rep : List ℕ} (row : ClassRow n rep) where
    pub rows_sets : {seens builts need held over run : List ℕ} (count p : ℕ) → Swept T (class_at rep) (run_in count run) p (On seens) (On builts) →
        NeedRow T rep seens builts need → HeldRow T rep seens held → OverRow T rep held run p over →
        Sets T (class_at rep) (run_in count run) p (On seens) (On builts) (On need) (On held) (On over)
    rows_sets {seens} {builts} {need} {held} {over} {run} count p sw needs holds tops = record {
      marks = sw;
      marked = on? builts;
      keys = keys;
      lower = needs.lower;
      here = holds.here;
      up = holds.up;
      due = λ q t lt e h. tops.due q t lt (make_at count run q e) h;
      parts = tops.parts;
    }
      where
        -- What is seen is built.
        whole : (c : ℕ) → class_at rep c ≡ c → On seens c → On builts (class_at rep c)
        whole c e s = subst (On builts) (sym e) (sw.had c e s)

        keys : (c j d : ℕ) → class_at rep c ≡ c → Opening T c j d → On seens c → (On builts (class_at rep j) → ⊥) → On need (class_at rep j)
        keys c j d e (Opening.lefts i) s nb = absurd (nb (whole c e s))
        keys c j d e (Opening.rights i) s nb = absurd (nb (whole c e s))
        keys c j d e (Opening.bodies {b = b} i) s nb = needs.keys c b j i s nb
