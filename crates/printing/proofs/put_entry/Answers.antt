-- 255 is his own name, any other entry a cell.
use mathlib.Core.Path.{◌≡◌}
use Prim.Native.Nat.{◌+◌, ◌≤◌}
use native.Mathlib.Omega.{arith}
use Rattle.lines.proofs.PutLaws.{put_join}
use Rattle.printing.proofs.LineLaws.{put_cell}
use Rattle.printing.proofs.put_entry.Goals as goal

pub returns : goal.returns
returns c =
    let j : c.put_told-named.result ≤ c.args.at + 6 = c.put_told-named.ensures.1 in
    let k : c.put_text-2.result ≡ c.put_told-named.result + 1 = c.put_text-2.ensures.end in
    (put_cell c.args.entry c.if-entry-eq255.false (put_join (rw c.from.ensures at c.put_told-named.ensures.0) c.put_text-2.ensures), omega arith)
