-- Each sweep that changes something lowers the number of classes; one that changes nothing leaves closed classes.
use mathlib.Core.Path.{sym, subst}
use mathlib.Core.List.{List}
use Prim.Native.Nat.{ℕ}
use Rattle.model.specs.Stored.{table_in}
use Rattle.theory.specs.Cells.{class_at}
use Rattle.theory.specs.Classes.{Closed}
use Rattle.classes.proofs.SettleLaws.{stage_more, shut_closed, binds_some, binds_none}
use Rattle.classes.proofs.closing.settle.Goals as goal

pub returns-in_err-ok : goal.returns-in_err-ok
returns-in_err-ok c = rw c.from_residual.ensures (λ m mr s. binds_none _ _ _ _ _ c.bind_all.result c.bind_all.ensures c.in_err-ok.ensures.value m mr ((c.loop.invariant.sat m mr).0 s))

pub loop-preserved : goal.loop-preserved
loop-preserved c = stage_more c.loop.invariant (binds_some _ _ _ _ _ c.bind_all.result _ c.bind_all.ensures c.in_ok-ok.ensures.value).0

pub returns : goal.returns
returns c =
    let T = table_in c.args.table.now.words in
    let (moved, shut) = binds_some _ _ _ _ _ c.bind_all.result _ c.bind_all.ensures c.in_ok-ok.ensures.value in
    let stage = stage_more c.loop.invariant moved in
    record {
      kept = stage.holds;
      closed = subst (λ (k : List ℕ). Closed T (class_at k)) (sym (moved.still c.if-branch.false))
          (shut_closed c.args.table.now.formed c.loop.invariant.holds (shut c.if-branch.false));
      sat = stage.sat;
      most = stage.most;
    }
