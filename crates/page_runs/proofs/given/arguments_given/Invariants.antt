use Rattle.std.proofs.Common.{◌≡◌, take, map}
use Rattle.module_language.specs.ModuleLanguage.{argument_of}
use Rattle.page_runs.specs.Telling.{given_at, module_given}
use Rattle.page_runs.proofs.given.arguments_given.Given as goal

abbrev pub invariant-loop-dep : goal.invariant-loop-dep
invariant-loop-dep g l = l.mods.items ≡ map argument_of (given_at l.name (module_given l.page l.name l.given) (take l.dep-index l.deps))
