use Rattle.std.proofs.Common.{refl}
use Rattle.std.specs.Fmt.{digits}
use Rattle.module_semantics.specs.Entries.{entry_at, with_entry}
use Rattle.module_language.proofs.examples.handlers_are_run.Goals as goal

pub returns-clause-closure : goal.returns-clause-closure
unfolding digits entry_at with_entry
returns-clause-closure c = refl
