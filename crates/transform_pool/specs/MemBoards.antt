-- What contracts see of a board in memory.
use Rattle.std.specs.Prelude.{ℕ, Bool, List}
use Rattle.transforms.specs.Transform.{Transform}
use Rattle.transform_pool.specs.Left.{taken_of}
use Rattle.transform_pool.specs.Tasks.{Task}
use Rattle.transform_pool.specs.declared.mem_board.MemBoard.{MemBoard}

-- the jobs that it was made of
abbrev pub jobs_of : MemBoard → List Task
jobs_of board = board.all.value.items

-- whether no job will come any more
abbrev pub has_ended : MemBoard → Bool
has_ended board = board.ended

-- the jobs that were taken
abbrev pub taken_from : MemBoard → List Task
taken_from board = taken_of board.all.value.items board.jobs.items

-- the results that were posted, with their versions
abbrev pub posted_on : MemBoard → List (Transform × ℕ)
posted_on board = board.posted.items
