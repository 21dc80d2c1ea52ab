use Rattle.std.proofs.Common.{◌≡◌, ◌++◌, drop}
use Rattle.client_model.specs.Journal.{log_lines}
use Rattle.page_state.proofs.lines.tell_log.Given as goal

abbrev pub invariant-loop-text : goal.invariant-loop-text
invariant-loop-text l = l.lines.items ++ log_lines l.client l.name (drop l.text-index l.texts) ≡ l.fn.lines.items ++ log_lines l.client l.name l.texts
