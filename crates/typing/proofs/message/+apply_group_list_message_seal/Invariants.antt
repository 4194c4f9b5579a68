-- A part is nested one deeper, so what is still allowed falls; in a list a comma stands before each further message.
use Prim.Native.Nat.{◌+◌, ◌-◌, ◌*◌}
use lib.ListN.{length}
use Rattle.typing.proofs.MessageLaws.{ListAt}
use Rattle.typing.proofs.message.+apply_group_list_message_seal.Given as goal

abbrev pub decreases-apply : goal.decreases-apply
decreases-apply l = 3 * l.deep

abbrev pub decreases-group : goal.decreases-group
decreases-group l = 3 * l.deep

abbrev pub decreases-list : goal.decreases-list
decreases-list l = 3 * l.deep + 2

abbrev pub decreases-message : goal.decreases-message
decreases-message l = 3 * l.deep + 1

abbrev pub decreases-seal : goal.decreases-seal
decreases-seal l = 3 * l.deep

-- The messages before i are read and entered.
abbrev pub invariant-list-loop-to : goal.invariant-list-loop-to
invariant-list-loop-to l = ListAt l.text l.at (17 - l.deep) l.fn.store l.i l.store l.items

abbrev pub decreases-list-loop-to : goal.decreases-list-loop-to
decreases-list-loop-to l = length l.text - l.i
