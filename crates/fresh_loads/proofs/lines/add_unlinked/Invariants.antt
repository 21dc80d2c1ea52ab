use Rattle.std.proofs.Common.{◌≡◌, ◌++◌, map}
use Rattle.world_model.specs.Steps.{unlinked_line}
use Rattle.fresh_loads.proofs.lines.add_unlinked.Given as goal

-- the lines so far are those of the edges so far
abbrev pub invariant-loop-importer : goal.invariant-loop-importer
invariant-loop-importer l = l.lines.items ≡ l.fn.lines.items ++ map unlinked_line l.yielded
