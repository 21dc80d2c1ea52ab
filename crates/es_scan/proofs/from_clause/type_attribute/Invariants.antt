use Rattle.std.proofs.Common.{◌≤◌, ◌-◌, length}
use Rattle.es_scan.proofs.from_clause.type_attribute.Given as goal

abbrev pub invariant-loop-attribute : goal.invariant-loop-attribute
invariant-loop-attribute l = (l.fn.from ≤ l.at) × (l.at ≤ length l.text)

abbrev pub decreases-loop-attribute : goal.decreases-loop-attribute
decreases-loop-attribute l = length l.text - l.at
