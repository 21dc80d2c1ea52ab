use Rattle.std.proofs.Common.{◌≡◌, ◌++◌, map}
use Rattle.client_model.specs.Printing.{module_line}
use Rattle.fresh_loads.proofs.lines.add_modules.Given as goal

-- the lines so far are those of the rows so far
abbrev pub invariant-loop-name : goal.invariant-loop-name
invariant-loop-name l = l.lines.items ≡ l.fn.lines.items ++ map module_line l.yielded
