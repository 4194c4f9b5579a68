-- The reply to the first bytes is the reply to the whole input.
use mathlib.Core.Path.{◌≡◌, ap, subst}
use mathlib.Core.List.{List}
use Prim.Native.Nat.{ℕ, ◌≤◌}
use native.Mathlib.Omega.{arith}
use lib.ListN.{length, take, drop, length-drop, length-append}
use Rattle.model.specs.Replies.{laid}
use Rattle.printing.specs.Promise.{ReplyPromise}
use Rattle.printing.proofs.Theorems.{reply_from_prefix}
use Rattle.run.specs.Answers.{Answers}

pub answers : (start before after : List ℕ) (n r : ℕ) → 899 ≤ length start → 1437 ≤ length before → ReplyPromise (take n start) before r after → Answers start n before r after
answers start before after n r long room p = record {
  reply = λ input b. reply_from_prefix input before (length start) r after long (subst (λ s. ReplyPromise s before r after) b p);
  inside =
      (let (text, l, w) = p.written room in
      let i = w.size in
      let h = w.room in
      let e : length after ≡ length (laid text before) = ap length w.bytes in
      let a = length-append text (drop (length text) before) in
      let d = length-drop (length text) before in
      omega arith);
}
