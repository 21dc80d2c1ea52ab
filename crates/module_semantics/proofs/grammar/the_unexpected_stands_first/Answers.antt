use Rattle.module_semantics.proofs.Modules.{stands_first, one_place}
use Rattle.module_semantics.proofs.grammar.the_unexpected_stands_first.Goals as goal

pub returns-clause-first : goal.returns-clause-first
returns-clause-first c = stands_first

pub returns-clause-one : goal.returns-clause-one
returns-clause-one c = one_place
