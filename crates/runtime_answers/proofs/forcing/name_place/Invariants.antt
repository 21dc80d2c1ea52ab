use Rattle.std.proofs.Common.{◌≡◌, ◌++◌, take, drop}
use Rattle.core_model.specs.Names.{put_name}
use Rattle.runtime_answers.proofs.forcing.name_place.Given as goal

-- the name belongs behind those before
abbrev pub invariant-loop-place : goal.invariant-loop-place
invariant-loop-place l = put_name l.name l.names ≡ take l.place l.names ++ put_name l.name (drop l.place l.names)
