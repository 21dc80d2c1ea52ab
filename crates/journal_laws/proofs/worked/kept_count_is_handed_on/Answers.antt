use Rattle.std.proofs.Common.{refl}
use Rattle.journal_laws.proofs.worked.kept_count_is_handed_on.Goals as goal

pub returns-clause-starts : goal.returns-clause-starts
returns-clause-starts f = refl

pub returns-clause-ends : goal.returns-clause-ends
returns-clause-ends f = refl
