use Rattle.std.proofs.Common.{◌≡◌, ◌<◌, ◌++◌, length, decimal}
use Rattle.message_json.proofs.table_text.number_at.Given as goal

abbrev pub invariant-loop-digit : goal.invariant-loop-digit
invariant-loop-digit l = (l.text ≡ decimal l.number ++ l.left) × (0 < l.number)

abbrev pub decreases-loop-digit : goal.decreases-loop-digit
decreases-loop-digit l = length l.left
