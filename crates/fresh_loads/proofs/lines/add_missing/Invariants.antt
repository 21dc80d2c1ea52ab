use Rattle.std.proofs.Common.{◌≡◌, ◌++◌, map}
use Rattle.output_lines.specs.declared.out_line.OutLine.TheVariants.{Missing}
use Rattle.fresh_loads.proofs.lines.add_missing.Given as goal

-- the lines so far are those of the names so far
abbrev pub invariant-loop-name : goal.invariant-loop-name
invariant-loop-name l = l.lines.items ≡ l.fn.lines.items ++ map Missing l.yielded
