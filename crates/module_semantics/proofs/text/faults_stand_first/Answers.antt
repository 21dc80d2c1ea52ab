use Rattle.module_semantics.proofs.TextFaultLaws.{fault_is}
use Rattle.module_semantics.proofs.text.faults_stand_first.Goals as goal

pub returns : goal.returns
returns c = fault_is
