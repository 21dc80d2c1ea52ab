use Rattle.std.proofs.Common.{◌≡◌, ◌++◌}
use Rattle.live_lines.specs.Applying.{born_rows}
use Rattle.live_lines.proofs.applying.born_rows.Given as goal

-- the rows so far, and those of what is left, are all
abbrev pub invariant-loop-name : goal.invariant-loop-name
invariant-loop-name l =
    l.rows.items ++ born_rows l.made l.staged.entries l.kept.entries l.name-iterator
    ≡ born_rows l.made l.staged.entries l.kept.entries l.staged.entries
