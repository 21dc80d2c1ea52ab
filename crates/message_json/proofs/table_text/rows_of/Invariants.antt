use Rattle.std.proofs.Common.{◌≡◌, ◌++◌, length, true}
use Rattle.message_json.specs.TableText.{are_named, front}
use Rattle.message_json.proofs.table_text.rows_of.Given as goal

abbrev pub invariant-loop-name : goal.invariant-loop-name
invariant-loop-name l = (l.text ≡ front l.rows.items ++ l.left) × (are_named l.rows.items ≡ true)

abbrev pub decreases-loop-name : goal.decreases-loop-name
decreases-loop-name l = length l.left
