-- A part is nested one deeper, so what is still allowed falls; in a list a comma stands before each further message.
use Prim.Native.Nat.{◌-◌}
use native.Mathlib.Omega.{arith}
use Rattle.std.proofs.lemmas.Result.{err_from_is_err_and}
use Rattle.typing.specs.Store.{put}
use Rattle.typing.proofs.MessageLaws.{apply_done, apply_else, apply_none, apply_stuck, apply_unopened, group_done, group_else, group_stuck, lead_deep, lead_none, list_done, list_else, list_next, list_start, seal_done, seal_else, seal_halved, seal_stuck, seal_unkeyed, seal_unopened}
use Rattle.typing.proofs.message.+apply_group_list_message_seal.Goals as goal

-- ---- apply

pub apply-returns-in_err-f : goal.apply-returns-in_err-f
apply-returns-in_err-f t c = let p = err_from_is_err_and c.from_residual.result c.from_residual.ensures.1 in rw (p.1, p.2) (apply_none c.args.text.now c.args.at c.args.deep c.requires.2 c.requires.3 (c.requires.0, c.requires.1) _ c.in_err-f.ensures)

pub apply-returns-in_err-open : goal.apply-returns-in_err-open
apply-returns-in_err-open t c = let p = err_from_is_err_and c.from_residual-in_err-open.result c.from_residual-in_err-open.ensures.1 in rw (p.1, p.2) (apply_unopened c.args.text.now c.args.at c.args.deep c.requires.2 c.requires.3 (c.requires.0, c.requires.1) c.in_ok-f.f c.in_ok-f.brace c.in_ok-f.ensures _ c.in_err-open.ensures)

pub apply-returns-in_err-to : goal.apply-returns-in_err-to
apply-returns-in_err-to t c = let p = err_from_is_err_and c.from_residual-in_err-to.result c.from_residual-in_err-to.ensures.1 in rw (p.1, p.2) (apply_else c.args.text.now c.args.at c.args.deep c.requires.2 c.requires.3 (c.requires.0, c.requires.1) c.in_ok-f.f c.in_ok-f.brace c.in_ok-f.ensures _ c.in_ok-open.ensures _ c.in_err-to.ensures)

pub apply-returns-in_err-end : goal.apply-returns-in_err-end
apply-returns-in_err-end t c = let p = err_from_is_err_and c.from_residual-in_err-end.result c.from_residual-in_err-end.ensures.1 in rw (p.1, p.2) (apply_stuck c.args.text.now c.args.at c.args.deep c.requires.2 c.requires.3 (c.requires.0, c.requires.1) c.in_ok-f.f c.in_ok-f.brace c.in_ok-f.ensures _ c.in_ok-open.ensures c.args.store.now c.list.new.store c.in_ok-to.to c.in_ok-to.cell c.in_ok-to.ensures _ c.in_err-end.ensures)

pub apply-returns : goal.apply-returns
apply-returns t c = apply_done c.args.text.now c.args.at c.args.deep c.requires.2 c.requires.3 (c.requires.0, c.requires.1) c.in_ok-f.f c.in_ok-f.brace c.in_ok-f.ensures _ c.in_ok-open.ensures c.args.store.now c.list.new.store c.in_ok-to.to c.in_ok-to.cell c.in_ok-to.ensures _ _ (put c.enter.new.store c.enter.result) c.in_ok-end.ensures c.enter.ensures c.word_of.ensures

-- ---- group

pub group-returns-in_err-to : goal.group-returns-in_err-to
group-returns-in_err-to t c = let p = err_from_is_err_and c.from_residual.result c.from_residual.ensures.1 in rw (p.1, p.2) (group_else c.args.text.now c.args.at c.args.deep c.requires.2 c.requires.3 (c.requires.0, c.requires.1) _ c.in_err-to.ensures)

pub group-returns-in_err-end : goal.group-returns-in_err-end
group-returns-in_err-end t c = let p = err_from_is_err_and c.from_residual-in_err-end.result c.from_residual-in_err-end.ensures.1 in rw (p.1, p.2) (group_stuck c.args.text.now c.args.at c.args.deep c.requires.2 c.requires.3 (c.requires.0, c.requires.1) c.args.store.now c.list.new.store c.in_ok-to.to c.in_ok-to.cell c.in_ok-to.ensures _ c.in_err-end.ensures)

pub group-returns : goal.group-returns
group-returns t c = group_done c.args.text.now c.args.at c.args.deep c.requires.2 c.requires.3 (c.requires.0, c.requires.1) c.args.store.now c.list.new.store c.in_ok-to.to c.in_ok-to.cell c.in_ok-to.ensures _ c.in_ok-end.ensures

-- ---- list

pub list-loop-to-init : goal.list-loop-to-init
list-loop-to-init t c = list_start c.args.text.now c.args.at (17 - c.args.deep) c.args.store.now _ c.no_items-items.ensures c.requires.0

pub list-returns-in_err-to : goal.list-returns-in_err-to
list-returns-in_err-to t c = let p = err_from_is_err_and c.from_residual.result c.from_residual.ensures.1 in rw (p.1, p.2) (list_else c.args.text.now c.args.at (17 - c.args.deep) c.args.store.now c.loop-to.i c.loop-to.store c.loop-to.items c.loop-to.invariant _ c.in_err-to.ensures)

pub list-returns-then-not-has : goal.list-returns-then-not-has
list-returns-then-not-has t c = list_done c.args.text.now c.args.at (17 - c.args.deep) c.args.store.now c.loop-to.i c.loop-to.store c.loop-to.items c.loop-to.invariant c.in_ok-to.to c.in_ok-to.cell c.message.new.store c.in_ok-to.ensures (put c.pair_up.new.store c.pair_up.result) c.pair_up.ensures (λ b. c.has.ensures.no c.if-not-has.true b)

pub list-loop-to-preserved : goal.list-loop-to-preserved
list-loop-to-preserved t c = list_next c.args.text.now c.args.at (17 - c.args.deep) c.args.store.now c.loop-to.i c.loop-to.store c.loop-to.items c.loop-to.invariant c.in_ok-to.to c.in_ok-to.cell c.message.new.store c.in_ok-to.ensures _ c.with_item.ensures (c.has.ensures.yes c.if-not-has.false)

-- ---- message

pub message-returns-in_default : goal.message-returns-in_default
message-returns-in_default t c = lead_none c.args.text.now c.args.at (17 - c.args.deep) c.in_default.ensures _ c.wrong.ensures

pub message-returns-then-deep-eq0 : goal.message-returns-then-deep-eq0
message-returns-then-deep-eq0 t c = lead_deep c.args.text.now c.args.at (17 - c.args.deep) c.in-Some.lead c.in-Some.ensures (omega (arith, c.if-deep-eq0.true))

-- ---- seal

pub seal-returns-in_err-open : goal.seal-returns-in_err-open
seal-returns-in_err-open t c = let p = err_from_is_err_and c.from_residual.result c.from_residual.ensures.1 in rw (p.1, p.2) (seal_unopened c.args.text.now c.args.at c.args.deep c.requires.2 c.requires.3 (c.requires.0, c.requires.1) _ c.in_err-open.ensures)

pub seal-returns-in_err-to : goal.seal-returns-in_err-to
seal-returns-in_err-to t c = let p = err_from_is_err_and c.from_residual-in_err-to.result c.from_residual-in_err-to.ensures.1 in rw (p.1, p.2) (seal_else c.args.text.now c.args.at c.args.deep c.requires.2 c.requires.3 (c.requires.0, c.requires.1) _ c.in_ok-open.ensures _ c.in_err-to.ensures)

pub seal-returns-in_err-bar : goal.seal-returns-in_err-bar
seal-returns-in_err-bar t c = let p = err_from_is_err_and c.from_residual-in_err-bar.result c.from_residual-in_err-bar.ensures.1 in rw (p.1, p.2) (seal_stuck c.args.text.now c.args.at c.args.deep c.requires.2 c.requires.3 (c.requires.0, c.requires.1) _ c.in_ok-open.ensures c.args.store.now c.list.new.store c.in_ok-to.to c.in_ok-to.body c.in_ok-to.ensures _ c.in_err-bar.ensures)

pub seal-returns-in_err-brace : goal.seal-returns-in_err-brace
seal-returns-in_err-brace t c = let p = err_from_is_err_and c.from_residual-in_err-brace.result c.from_residual-in_err-brace.ensures.1 in rw (p.1, p.2) (seal_halved c.args.text.now c.args.at c.args.deep c.requires.2 c.requires.3 (c.requires.0, c.requires.1) _ c.in_ok-open.ensures c.args.store.now c.list.new.store c.in_ok-to.to c.in_ok-to.body c.in_ok-to.ensures _ c.in_ok-bar.ensures _ c.in_err-brace.ensures)

pub seal-returns-in_err-end : goal.seal-returns-in_err-end
seal-returns-in_err-end t c = let p = err_from_is_err_and c.from_residual-in_err-end.result c.from_residual-in_err-end.ensures.1 in rw (p.1, p.2) (seal_unkeyed c.args.text.now c.args.at c.args.deep c.requires.2 c.requires.3 (c.requires.0, c.requires.1) _ c.in_ok-open.ensures c.args.store.now c.list.new.store c.in_ok-to.to c.in_ok-to.body c.in_ok-to.ensures _ c.in_ok-bar.ensures _ c.in_ok-brace.ensures _ c.in_err-end.ensures)

pub seal-returns : goal.seal-returns
seal-returns t c = seal_done c.args.text.now c.args.at c.args.deep c.requires.2 c.requires.3 (c.requires.0, c.requires.1) _ c.in_ok-open.ensures c.args.store.now c.list.new.store c.in_ok-to.to c.in_ok-to.body c.in_ok-to.ensures _ c.in_ok-bar.ensures _ c.in_ok-brace.ensures c.in_ok-end.end c.in_ok-end.key _ c.message.new.store (put c.enter.new.store c.enter.result) c.in_ok-end.ensures c.enter.ensures c.word_of.ensures
