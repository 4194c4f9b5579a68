-- The parts of the line, one behind the other.
use mathlib.Core.Path.{◌≡◌}
use Prim.Native.Nat.{◌+◌, ◌≤◌}
use native.Mathlib.Omega.{arith}
use Rattle.lines.proofs.PutLaws.{put_join}
use Rattle.printing.proofs.put_counts.Goals as goal

pub returns : goal.returns
returns c =
    let i : c.put_told-first.result ≤ 9 = c.put_told-first.ensures.1 in
    let j : c.put_told-second.result ≤ c.put_told-first.result + 11 = c.put_told-second.ensures.1 in
    let k : c.put_text.result ≡ c.put_told-second.result + 1 = c.put_text.ensures.end in
    (put_join c.put_told-first.ensures.0 (put_join c.put_told-second.ensures.0 c.put_text.ensures), omega arith)
