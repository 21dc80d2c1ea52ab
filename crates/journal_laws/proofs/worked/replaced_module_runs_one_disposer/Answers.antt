use Rattle.std.proofs.Common.{refl}
use Rattle.journal_laws.proofs.worked.replaced_module_runs_one_disposer.Goals as goal

pub returns-clause-disposals : goal.returns-clause-disposals
returns-clause-disposals f = refl

pub returns-clause-prunings : goal.returns-clause-prunings
returns-clause-prunings f = refl

pub returns-clause-runs : goal.returns-clause-runs
returns-clause-runs f = refl

pub returns-clause-drops : goal.returns-clause-drops
returns-clause-drops f = refl

pub returns-clause-fates : goal.returns-clause-fates
returns-clause-fates f = refl
