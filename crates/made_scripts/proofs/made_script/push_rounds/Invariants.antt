use Rattle.std.proofs.Common.{◌≡◌, ◌++◌, ◌*◌}
use Rattle.made_scripts.specs.Making.{rounds, state_after}
use Rattle.made_scripts.proofs.made_script.push_rounds.Given as goal

-- the rounds so far, and the draws for them
abbrev pub invariant-loop-earlier : goal.invariant-loop-earlier
invariant-loop-earlier l =
    (l.lines.items ≡ l.initial.lines.items ++ rounds l.count l.initial.draws.state l.earlier)
    × (l.draws.state ≡ state_after l.initial.draws.state (2 * l.earlier))
