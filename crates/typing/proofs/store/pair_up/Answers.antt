-- The pairs of the items from i on are entered.
use mathlib.Core.Path.{◌≡◌, refl, subst}
use Prim.Native.Nat.{◌-◌}
use native.Mathlib.Omega.{arith}
use Rattle.typing.specs.Store.{put}
use Rattle.typing.proofs.StoreLaws.{PairedFrom, paired_start, paired_step, paired_all}
use Rattle.typing.proofs.store.pair_up.Goals as goal

pub loop-i-init : goal.loop-i-init
loop-i-init c = paired_start c.args.store.now c.args.items.now c.args.last

pub loop-i-preserved : goal.loop-i-preserved
loop-i-preserved c = paired_step c.args.store.now c.args.items.now c.args.last (c.loop-i.i - 1) c.loop-i.i c.loop-i.store c.loop-i.behind (put c.enter-behind.new.store c.enter-behind.result) c.word_of.result (omega (arith, c.loop-i-test.true)) (omega (arith, c.loop-i-test.true, c.loop-i.auto.i)) c.loop-i.invariant c.word_of.ensures c.enter-behind.ensures

pub returns-then-items : goal.returns-then-items
returns-then-items c = paired_all c.args.store.now c.args.items.now c.args.last c.loop-i.store c.loop-i.behind _ (let z : c.loop-i.i ≡ 0 = omega arith in subst (λ i. PairedFrom c.args.store.now c.args.items.now c.args.last i c.loop-i.store c.loop-i.behind) z c.loop-i.invariant) (rw c.if-items.true refl)

pub returns-else-items : goal.returns-else-items
returns-else-items c = paired_all c.args.store.now c.args.items.now c.args.last c.loop-i.store c.loop-i.behind c.loop-i.store (let z : c.loop-i.i ≡ 0 = omega arith in subst (λ i. PairedFrom c.args.store.now c.args.items.now c.args.last i c.loop-i.store c.loop-i.behind) z c.loop-i.invariant) (rw c.if-items.false refl)
