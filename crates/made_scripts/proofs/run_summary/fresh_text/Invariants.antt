use Rattle.std.proofs.Common.{◌≡◌, drop}
use Rattle.made_scripts.specs.Summary.{fresh_text}
use Rattle.made_scripts.proofs.run_summary.fresh_text.Given as goal

-- no line so far was `fresh`
abbrev pub invariant-loop-at : goal.invariant-loop-at
invariant-loop-at l = fresh_text (drop l.at l.lines) ≡ fresh_text l.lines
