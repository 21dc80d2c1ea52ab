use Rattle.std.proofs.Common.{◌≡◌, drop, ◌-◌}
use Rattle.update_msgs.specs.Names.{rise}
use Rattle.message_json.proofs.list.names_rise.Given as goal

abbrev pub invariant-loop-i : goal.invariant-loop-i
invariant-loop-i l = rise (drop (l.i - 1) l.names) ≡ rise l.names
