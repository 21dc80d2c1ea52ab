-- What is kept of a live board.
use Rattle.std.specs.Prelude.{Bool}
use Rattle.session_desks.specs.Boards.{SameBoard, has_ended}
use Rattle.live_desk.specs.declared.board.LiveBoard.{LiveBoard}

-- the same hub and queue, and a pass of the same number
abbrev pub SameLive : LiveBoard → LiveBoard → Type 0
SameLive x y = SameBoard x.board y.board

-- no job will come any more
abbrev pub is_ended : LiveBoard → Bool
is_ended x = has_ended x.board
