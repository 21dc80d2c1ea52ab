use Rattle.std.proofs.Common.{◌≡◌, ◌++◌, drop}
use Rattle.page_instances.specs.Showing.{export_lines}
use Rattle.page_instances.proofs.showing.tell_each.Given as goal

abbrev pub invariant-loop-export : goal.invariant-loop-export
invariant-loop-export l = l.lines.items ++ export_lines l.name l.values (drop l.export-index l.exports) ≡ l.fn.lines.items ++ export_lines l.name l.values l.exports
