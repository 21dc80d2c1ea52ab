use Rattle.std.proofs.Common.{◌≡◌, ◌++◌, map}
use Rattle.client_model.specs.Printing.{stale_line}
use Rattle.world_parts.proofs.lines.add_stale.Given as goal

-- the lines so far are those of the edges so far
abbrev pub invariant-loop-importer : goal.invariant-loop-importer
invariant-loop-importer l = l.lines.items ≡ l.fn.lines.items ++ map stale_line l.yielded
