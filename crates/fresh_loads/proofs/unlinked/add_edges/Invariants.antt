use Rattle.std.proofs.Common.{◌≡◌, ◌++◌, drop}
use Rattle.std.specs.Prelude.{flat_map}
use Rattle.fresh_loads.specs.Searching.{unlinked_by}
use Rattle.fresh_loads.proofs.unlinked.add_edges.Given as goal

-- what was found so far, and by the dependencies that are to come, is all
abbrev pub invariant-loop-dependency : goal.invariant-loop-dependency
invariant-loop-dependency l = l.found.items ++ flat_map (unlinked_by l.exports l.linked l.name) (drop l.dependency-index l.dependencies) ≡ l.initial.found.items ++ flat_map (unlinked_by l.exports l.linked l.name) l.dependencies
