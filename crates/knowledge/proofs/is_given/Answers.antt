-- `knowledge::is_given` meets its contract: one law for each kind of cell.
use Rattle.knowledge.proofs.ByKind.{given_name, given_variable}
use Rattle.knowledge.proofs.is_given.Goals as goal

pub returns-in-Atom : goal.returns-in-Atom
returns-in-Atom c = given_name c.in-Atom.is

pub returns-in-Variable : goal.returns-in-Variable
returns-in-Variable c = given_variable c.in-Variable.is
