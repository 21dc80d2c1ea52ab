-- Each client of the script is opened in a format that there is.
use Rattle.made_scripts.proofs.MadeFormats.{formats_generated}
use Rattle.made_scripts.proofs.made_script.generate.Goals as goal

pub returns-clause-formats : goal.returns-clause-formats
returns-clause-formats c = rw c.in_ok-lines.ensures (formats_generated c.args.count c.args.seed)
