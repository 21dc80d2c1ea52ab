use Rattle.std.proofs.Common.{◌≡◌, ◌++◌, drop}
use Rattle.live_lines.specs.Pages.{stale_among}
use Rattle.live_lines.proofs.stale.put_among.Given as goal

-- what was found, and what is stale among the bindings that are left, is all
abbrev pub invariant-loop-binding : goal.invariant-loop-binding
invariant-loop-binding l =
    l.found.items ++ stale_among l.modules.entries l.importer l.made (drop l.binding-index l.bindings)
    ≡ l.initial.found.items ++ stale_among l.modules.entries l.importer l.made l.bindings
