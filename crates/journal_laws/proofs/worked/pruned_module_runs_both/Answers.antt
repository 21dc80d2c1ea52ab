use Rattle.std.proofs.Common.{refl}
use Rattle.journal_laws.proofs.worked.pruned_module_runs_both.Goals as goal

pub returns-clause-before : goal.returns-clause-before
returns-clause-before f = refl

pub returns-clause-disposals : goal.returns-clause-disposals
returns-clause-disposals f = refl

pub returns-clause-prunings : goal.returns-clause-prunings
returns-clause-prunings f = refl

pub returns-clause-fates : goal.returns-clause-fates
returns-clause-fates f = refl
