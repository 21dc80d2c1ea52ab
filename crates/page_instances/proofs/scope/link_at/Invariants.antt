use Rattle.std.proofs.Common.{◌≡◌, drop}
use Rattle.core_model.specs.Names.{at}
use Rattle.page_instances.proofs.scope.link_at.Given as goal

abbrev pub invariant-loop-row : goal.invariant-loop-row
invariant-loop-row l = at (drop l.row-index l.links) l.name ≡ at l.links l.name
