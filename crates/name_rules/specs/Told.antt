-- What breaks a rule on names.
use Rattle.std.specs.Prelude.{Option}
use Rattle.std.specs.Option.{option_map}
use Rattle.module_semantics.specs.NameRules as rules
use Rattle.hmr_types.specs.declared.analysis.FaultWord.{FaultWord}
use Rattle.hmr_types.specs.declared.analysis.FaultWord.TheVariants as words
use Rattle.name_rules.specs.declared.names.Broken.{Broken}
use Rattle.name_rules.specs.declared.names.NameRule.{NameRule}
use Rattle.name_rules.specs.declared.names.NameRule.TheVariants as broken

-- the word of a rule
abbrev pub rule_word : NameRule → FaultWord
rule_word broken.Unexpected = words.Unexpected
rule_word broken.DuplicateName = words.DuplicateName
rule_word broken.NotAssignable = words.NotAssignable

-- a place with its rule
abbrev pub broken_of : Broken → rules.Broken
broken_of b = record { at = b.at; word = rule_word b.rule }

-- one, if any
abbrev pub told : Option Broken → Option rules.Broken
told found = option_map broken_of found
