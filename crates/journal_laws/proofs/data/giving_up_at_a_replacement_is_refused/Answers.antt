use Rattle.journal_laws.proofs.GivingUp.{told_is_refused, silence_is_refused}
use Rattle.journal_laws.proofs.data.giving_up_at_a_replacement_is_refused.Goals as goal

pub returns-clause-told : goal.returns-clause-told
returns-clause-told c = told_is_refused

pub returns-clause-silent : goal.returns-clause-silent
returns-clause-silent c = silence_is_refused
