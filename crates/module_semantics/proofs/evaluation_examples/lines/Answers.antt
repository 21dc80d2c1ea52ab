use Rattle.std.proofs.Common.{refl}
use Rattle.std.specs.Fmt.{digits}
use Rattle.module_semantics.specs.Values.{number, text}
use Rattle.module_semantics.specs.Entries.{entry_at}
use Rattle.module_semantics.proofs.evaluation_examples.lines.Goals as goal

pub returns-clause-joined : goal.returns-clause-joined
unfolding number text digits
returns-clause-joined c = refl

pub returns-clause-host : goal.returns-clause-host
unfolding digits entry_at
returns-clause-host c = refl
