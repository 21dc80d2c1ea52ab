use Rattle.std.proofs.Common.{◌≡◌, ◌+◌, ◌≤◌, drop}
use Rattle.std.specs.Prelude.{count_by}
use Rattle.made_scripts.specs.Summary.{is_instance}
use Rattle.made_scripts.proofs.run_summary.count_instances.Given as goal

-- the count so far, and that of the lines that are left
abbrev pub invariant-loop-line : goal.invariant-loop-line
invariant-loop-line l = record {
  count : l.count + count_by is_instance (drop l.line-index l.lines) ≡ count_by is_instance l.lines;
  few : l.count ≤ l.line-index;
}
