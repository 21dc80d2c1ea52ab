use Rattle.http_modules.proofs.Back.{reads_rewritten}
use Rattle.http_modules.proofs.laws.rewritten_reads_back.Goals as goal

pub returns : goal.returns
returns c = reads_rewritten
