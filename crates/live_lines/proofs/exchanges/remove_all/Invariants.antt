use Rattle.std.proofs.Common.{◌≡◌, drop}
use Rattle.live_lines.specs.Answering.{without_rows}
use Rattle.live_lines.proofs.exchanges.remove_all.Given as goal

-- without the names that are left it is without all
abbrev pub invariant-loop-name : goal.invariant-loop-name
invariant-loop-name l = without_rows l.modules.entries (drop l.name-index l.names) ≡ without_rows l.initial.modules.entries l.names
