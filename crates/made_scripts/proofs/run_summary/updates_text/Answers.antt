use Rattle.std.proofs.Common.{append_assoc, rules}
use Rattle.made_scripts.specs.Summary.{updates_text}
use Rattle.made_scripts.proofs.run_summary.updates_text.Goals as goal

pub returns : goal.returns
unfolding updates_text
returns c = search (rules, append_assoc)
