use Rattle.std.proofs.Common.{◌≡◌, map, take}
use Rattle.live_lines.specs.Applying.{bound}
use Rattle.live_lines.proofs.applying.bindings_of.Given as goal

-- the bindings so far are those of the names so far
abbrev pub invariant-loop-imported : goal.invariant-loop-imported
invariant-loop-imported l =
    l.bindings.items ≡ map (bound l.staged.entries l.kept.entries) (take l.imported-index l.names)
