use Rattle.std.proofs.Common.{◌≡◌, ◌++◌, take, drop}
use Rattle.hmr_types.specs.declared.analysis.TextFault.{TextFault}
use Rattle.client_queue.specs.Queue.{put_row}
use Rattle.client_queue.proofs.sorted.row_place.Given as goal

-- the name belongs behind those before
abbrev pub invariant-loop-place : goal.invariant-loop-place
invariant-loop-place l = (x : TextFault) → put_row l.name x l.rows ≡ take l.place l.rows ++ put_row l.name x (drop l.place l.rows)
