use Rattle.std.proofs.Common.{◌≡◌, ◌++◌, take, drop}
use Rattle.http_heads.specs.Head.{path_of}
use Rattle.request_details.proofs.targets.path_of.Given as goal

abbrev pub invariant-loop-at : goal.invariant-loop-at
invariant-loop-at l = path_of l.target ≡ take l.at l.target ++ path_of (drop l.at l.target)
