use Rattle.std.proofs.Common.{◌≡◌, map}
use Rattle.std.specs.Prelude.{codes, replicate}
use Rattle.handler_table.specs.Shelf.{marks_of, numbered}
use Rattle.world_parts.specs.Shelves.{AreHosts}
use Rattle.script_runs.proofs.shelves.host_shelves.Given as goal

-- the shelves so far
abbrev pub invariant-loop : goal.invariant-loop
invariant-loop g l = record {
  hosts : AreHosts (goal.F-post g) l.shelves.items;
  marks : map marks_of l.shelves.items ≡ replicate l.counter (numbered (codes "H") 1 64);
}
