-- The value behind the variable.
use Prim.Native.Nat.{◌+◌, ◌≤◌}
use native.Mathlib.Omega.{arith}
use Rattle.lines.proofs.PutLaws.{put_join}
use Rattle.printing.proofs.put_value.Goals as goal

pub returns : goal.returns
returns c =
    let j : c.put_told-named.result ≤ c.args.at + 4 = c.put_told-named.ensures.1 in
    (put_join c.put_told-named.ensures.0 c.put_entry.ensures.0, omega (arith, c.put_entry.ensures.1))
