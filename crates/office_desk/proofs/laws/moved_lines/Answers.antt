use Rattle.office_desk.proofs.NoMoveLeftOut.{no_move_is_left_out}
use Rattle.office_desk.proofs.laws.moved_lines.Goals as goal

pub returns : goal.returns
returns c = no_move_is_left_out
