use Rattle.std.proofs.Common.{◌≡◌, ◌++◌}
use Rattle.made_scripts.specs.Making.{made, state_after}
use Rattle.made_scripts.proofs.made_script.push_modules.Given as goal

-- the edits so far, and the draws for them
abbrev pub invariant-loop-number : goal.invariant-loop-number
invariant-loop-number l =
    (l.lines.items ≡ l.initial.lines.items ++ made l.count l.initial.draws.state l.number)
    × (l.draws.state ≡ state_after l.initial.draws.state l.number)
