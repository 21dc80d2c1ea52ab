use Rattle.std.proofs.Common.{◌≡◌, ◌++◌}
use Rattle.live_lines.specs.Applying.{changed_of}
use Rattle.live_lines.proofs.applying.changed_of.Given as goal

-- what was found, and what is changed of the rest, is all
abbrev pub invariant-loop-name : goal.invariant-loop-name
invariant-loop-name l =
    l.changed.items ++ changed_of l.modules.entries l.name-iterator
    ≡ changed_of l.modules.entries l.staged.entries
