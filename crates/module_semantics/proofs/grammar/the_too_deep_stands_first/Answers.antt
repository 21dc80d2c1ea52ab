use Rattle.module_semantics.proofs.Modules.{sinks_there, sinks_first}
use Rattle.module_semantics.proofs.grammar.the_too_deep_stands_first.Goals as goal

pub returns-clause-deep : goal.returns-clause-deep
returns-clause-deep c = sinks_there

pub returns-clause-first : goal.returns-clause-first
returns-clause-first c = sinks_first
