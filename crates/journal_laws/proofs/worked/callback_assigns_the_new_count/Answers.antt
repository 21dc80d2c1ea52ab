use Rattle.std.proofs.Common.{refl}
use Rattle.journal_laws.proofs.worked.callback_assigns_the_new_count.Goals as goal

pub returns-clause-load : goal.returns-clause-load
returns-clause-load c = refl

pub returns-clause-update : goal.returns-clause-update
returns-clause-update c = refl

pub returns-clause-held : goal.returns-clause-held
returns-clause-held c = refl

pub returns-clause-link : goal.returns-clause-link
returns-clause-link c = refl
