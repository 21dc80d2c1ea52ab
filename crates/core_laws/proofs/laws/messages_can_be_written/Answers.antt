use Rattle.core_laws.proofs.Keeping.{step_fits}
use Rattle.core_laws.proofs.Messaging.{step_says, after_fits, after_says}
use Rattle.core_laws.proofs.laws.messages_can_be_written.Goals as goal

pub returns-clause-kept : goal.returns-clause-kept
returns-clause-kept c roots core event fits formed = step_fits core fits roots event formed

pub returns-clause-reply : goal.returns-clause-reply
returns-clause-reply c roots core event fits formed = step_says core fits roots event formed

pub returns-clause-always : goal.returns-clause-always
returns-clause-always c = after_fits

pub returns-clause-written : goal.returns-clause-written
returns-clause-written c = after_says
