-- A mark whose second byte is missing is cut, not read past the end.
use native.Mathlib.Omega.{arith}
use Rattle.casefile.proofs.RecordLaws.{mark_cut, mark_whole}
use Rattle.casefile.proofs.record.mark_at.Goals as goal
use Rattle.casefile.proofs.record.mark_at.Goals.{then-file-lt2-via-then-file-lt2, then-file-lt2-via-else-file-lt2+then-file-at}

pub returns-then-file-lt2 : goal.returns-then-file-lt2
returns-then-file-lt2 c = mark_cut c.args.file.now c.args.at (elim c.then-file-lt2.branch [
  | then-file-lt2-via-then-file-lt2 w ↦ omega arith
  | then-file-lt2-via-else-file-lt2+then-file-at w ↦ omega arith
])

pub returns : goal.returns
returns c = mark_whole c.args.file.now c.args.at (omega arith) c.kind_of.ensures
