use Rattle.std.proofs.Common.{append_assoc, rules}
use Rattle.made_scripts.specs.Summary.{reloads_text}
use Rattle.made_scripts.proofs.run_summary.reloads_text.Goals as goal

pub returns : goal.returns
unfolding reloads_text
returns c = search (rules, append_assoc)
