-- What a read adds stands behind what was read, within the buffer.
use mathlib.Core.Path.{◌≡◌, ◌∙◌, ap, subst}
use mathlib.Core.List.{List, ◌++◌}
use Prim.Native.Nat.{ℕ, ◌+◌, ◌-◌, ◌≤◌}
use native.Mathlib.Omega.{arith}
use lib.ListN.{length, take, drop, length-drop}
use lib.Seq.{length-take-le, take-add, take-append-le, drop_at}
use borrow.Rule.Slice.PartMut.{put_mid, post_of}
use Rattle.std.specs.Prelude.{Result, Ok, IfOk}
use Rattle.std.proofs.lemmas.Slice.{take-put_mid_below}

-- A read into the rest of the buffer, behind what was read before.
pub more_read : (start rest : List ℕ) (done k n : ℕ) → done ≤ length start → n ≤ length rest → take (done + n) (put_mid done k start rest) ≡ take done start ++ take n rest
more_read start rest done k n h l =
    let before = take done start in
    let behind = post_of done k start in
    take-add done n (put_mid done k start rest)
    ∙ (ap (λ x. x ++ take n (drop done (put_mid done k start rest))) (take-put_mid_below done k start rest done (omega arith) h)
    ∙ ap (λ x. before ++ x) (ap (take n) (drop_at before (rest ++ behind) done (length-take-le done start h)) ∙ take-append-le n rest behind l))

-- What a read came to stands in the buffer.
pub filled : {E : Type 0} (start : List ℕ) (r : Result ℕ E) (n : ℕ) → r ≡ Ok n → IfOk r (λ k. k ≤ length start) → n ≤ length start
filled start r n e h = subst (λ x. IfOk x (λ k. k ≤ length start)) e h

-- A read into the rest of the buffer stays within the buffer.
pub some_inside : {E : Type 0} (start rest : List ℕ) (done n : ℕ) (r : Result ℕ E) → done ≤ length start → length rest ≡ length (take (length start - done) (drop done start)) →
    IfOk r (λ k. k ≤ length rest) → r ≡ Ok n → done + n ≤ length start
some_inside start rest done n r h e w i =
    let l = filled rest r n i w in
    let d = length-drop done start in
    let t = length-take-le (length start - done) (drop done start) (omega arith) in
    omega arith
