use Rattle.std.proofs.Common.{◌≡◌, ◌++◌, length}
use Rattle.hub_editor.specs.Edits.{edits_in}
use Rattle.edit_input.proofs.script.all_of.Given as goal

-- those so far, and those that are left
abbrev pub invariant-edits : goal.invariant-edits
invariant-edits l = edits_in l.script.items ++ l.edits ≡ l.fn.edits

abbrev pub decreases-edits : goal.decreases-edits
decreases-edits l = length l.edits
