use Rattle.std.proofs.Common.{append_assoc, rules}
use Rattle.made_scripts.proofs.module_text.import_line.Goals as goal

pub returns : goal.returns
returns c = search (rules, append_assoc)
