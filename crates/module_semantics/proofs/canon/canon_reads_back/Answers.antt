use Rattle.module_semantics.proofs.CanonReads.{reads_exactly, one_canon}
use Rattle.module_semantics.proofs.canon.canon_reads_back.Goals as goal

pub returns-clause-exactly : goal.returns-clause-exactly
returns-clause-exactly c = reads_exactly

pub returns-clause-apart : goal.returns-clause-apart
returns-clause-apart c = one_canon
