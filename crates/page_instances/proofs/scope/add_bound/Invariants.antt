use Rattle.std.proofs.Common.{◌≡◌, ◌++◌, drop}
use Rattle.page_instances.specs.Scopes.{bound_slots}
use Rattle.page_instances.proofs.scope.add_bound.Given as goal

abbrev pub invariant-loop-bound : goal.invariant-loop-bound
invariant-loop-bound g l = l.vars.items ++ bound_slots l.instances l.links (drop l.bound-index l.bounds) ≡ l.fn.vars.items ++ bound_slots l.instances l.links l.bounds
