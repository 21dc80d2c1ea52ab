use Rattle.std.proofs.Common.{◌≡◌, ◌++◌, drop}
use Rattle.live_lines.specs.PageLines.{each_below}
use Rattle.live_lines.proofs.page_text.put_each.Given as goal

-- what is written, and the lines that are left, is the whole
abbrev pub invariant-loop-binding : goal.invariant-loop-binding
invariant-loop-binding l = l.out.items ++ each_below (drop l.binding-index l.bindings) ≡ l.initial.out.items ++ each_below l.bindings
