use Rattle.module_semantics.proofs.FailedLex.{was_faulted}
use Rattle.module_semantics.proofs.FaultedPieces.{is_faulted, one_fault, not_both}
use Rattle.module_semantics.proofs.tokens.faults_are_the_rules.Goals as goal

pub returns-clause-same : goal.returns-clause-same
returns-clause-same c = λ bytes f. (was_faulted bytes f, is_faulted bytes f)

pub returns-clause-one : goal.returns-clause-one
returns-clause-one c = one_fault

pub returns-clause-apart : goal.returns-clause-apart
returns-clause-apart c = not_both
