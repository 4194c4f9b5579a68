-- Nothing is stored.
use Rattle.typing.proofs.TakeLaws.{kept_none}
use Rattle.typing.proofs.no_lines.Goals as goal

pub returns : goal.returns
returns c = kept_none
