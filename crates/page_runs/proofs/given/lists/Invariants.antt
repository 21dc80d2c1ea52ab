use Rattle.std.proofs.Common.{◌≡◌, drop}
use Rattle.core_model.specs.Names.{has}
use Rattle.page_runs.proofs.given.lists.Given as goal

-- it isn't among those that were looked at
abbrev pub invariant-loop-dep : goal.invariant-loop-dep
invariant-loop-dep l = has (drop l.dep-index l.deps) l.name ≡ has l.deps l.name
