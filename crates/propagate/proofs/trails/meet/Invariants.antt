use Rattle.std.proofs.Common.{◌≡◌, ◌++◌, map, take}
use Rattle.core_model.specs.Names.{Name}
use Rattle.propagate.specs.Trails.{unmet}
use Rattle.propagate.proofs.trails.meet.Given as goal

abbrev pub invariant-loop-name : goal.invariant-loop-name
invariant-loop-name l = (l.trails.met ≡ l.fn.trails.met ++ unmet l.fn.trails.met (take l.name-index l.names))
    × (l.trails.from.items ≡ l.fn.trails.from.items ++ map (λ (n : Name). l.from) (unmet l.fn.trails.met (take l.name-index l.names)))
