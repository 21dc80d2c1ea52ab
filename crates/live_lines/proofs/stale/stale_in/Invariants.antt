use Rattle.std.proofs.Common.{◌≡◌, ◌++◌}
use Rattle.std.specs.List.{flat_map}
use Rattle.live_lines.specs.Pages.{stale_in, stale_of}
use Rattle.live_lines.proofs.stale.stale_in.Given as goal

-- what was found, and what is stale in the modules that are left, is all
abbrev pub invariant-loop-name : goal.invariant-loop-name
invariant-loop-name l = l.found.items ++ flat_map (stale_in l.modules.entries) l.name-iterator ≡ stale_of l.modules.entries
