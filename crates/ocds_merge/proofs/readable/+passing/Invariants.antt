use Rattle.ocds_merge.proofs.Names.{◌*◌, ◌+◌, false, ItemsRead, MembersRead}
use Rattle.ocds_merge.proofs.readable.+passing.Given as goal

abbrev pub decreases-passed_value : goal.decreases-passed_value
decreases-passed_value l = 3 * l.depth + 1

abbrev pub decreases-passed_other : goal.decreases-passed_other
decreases-passed_other l = 3 * l.depth

abbrev pub decreases-passed_items : goal.decreases-passed_items
decreases-passed_items l = 3 * l.depth + 2

abbrev pub decreases-passed_members : goal.decreases-passed_members
decreases-passed_members l = 3 * l.depth + 2

abbrev pub invariant-passed_items-loop-turn : goal.invariant-passed_items-loop-turn
invariant-passed_items-loop-turn l = ItemsRead l.text false l.left l.later l.depth

abbrev pub invariant-passed_members-loop-turn : goal.invariant-passed_members-loop-turn
invariant-passed_members-loop-turn l = MembersRead l.from.text.now l.from.later l.from.last.now l.left l.later l.last l.depth
