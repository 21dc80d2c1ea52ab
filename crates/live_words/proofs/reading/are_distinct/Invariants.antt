use Rattle.std.proofs.Common.{◌≡◌, drop}
use Rattle.core_model.specs.Roots.{are_distinct}
use Rattle.live_words.proofs.reading.are_distinct.Given as goal

-- each name before is different from all behind it
abbrev pub invariant-loop-place : goal.invariant-loop-place
invariant-loop-place l = are_distinct l.names ≡ are_distinct (drop l.place l.names)
