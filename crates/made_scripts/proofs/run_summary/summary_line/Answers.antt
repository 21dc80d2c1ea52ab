use Rattle.std.proofs.Common.{append_assoc, rules}
use Rattle.made_scripts.proofs.run_summary.summary_line.Goals as goal

pub returns : goal.returns
returns c = search (rules, append_assoc)
