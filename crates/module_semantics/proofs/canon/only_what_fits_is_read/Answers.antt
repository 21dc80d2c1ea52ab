use Rattle.module_semantics.proofs.CanonReads.{read_fits, read_again}
use Rattle.module_semantics.proofs.canon.only_what_fits_is_read.Goals as goal

pub returns-clause-fits : goal.returns-clause-fits
returns-clause-fits c = read_fits

pub returns-clause-again : goal.returns-clause-again
returns-clause-again c = read_again
