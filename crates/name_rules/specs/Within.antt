-- Where a statement stands.
use Rattle.module_semantics.specs.NameRules as rules
use Rattle.module_semantics.specs.NameRules.{names_of}
use Rattle.name_rules.specs.declared.within.Within.{Within}
use Rattle.name_rules.specs.declared.within.Within.TheVariants as places

abbrev pub within_of : Within → rules.Within
within_of places.Outside = rules.outside
within_of (places.Once params) = rules.in_once (names_of params.now)
within_of (places.Accept params) = rules.in_accept (names_of params.now)
