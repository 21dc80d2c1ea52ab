use Rattle.std.proofs.Common.{◌≡◌, ◌++◌, drop, map}
use Rattle.raw_trees.specs.Raw.{name_at_of}
use Rattle.module_semantics.specs.NameRules.{names_of}
use Rattle.name_rules.proofs.resolving.param_names.Given as goal

-- the names so far, and those of what is left, are the whole
abbrev pub invariant-loop-param : goal.invariant-loop-param
invariant-loop-param l = l.names.items ++ names_of (map name_at_of (drop l.param-index l.params)) ≡ names_of (map name_at_of l.params)
