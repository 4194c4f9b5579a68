-- The cells are read first, then the events of the part of the file that begins where the cell records end; a refusal of either is the file's.
use mathlib.Core.Path.{refl}
use Rattle.casefile.proofs.CaseLaws.{reply_listed, reply_accepted}
use Rattle.casefile.proofs.read_case.Goals as goal

pub invariant_of-result : goal.invariant_of-result
invariant_of-result c = record { listed = reply_listed c.args.file.now _ _ c.in_ok-table.ensures _ c.in_ok-run.ensures }

pub returns : goal.returns
returns c = reply_accepted c.args.file.now _ _ c.in_ok-table.ensures _ c.in_ok-run.ensures _ refl refl c.first_variable-variable.ensures
