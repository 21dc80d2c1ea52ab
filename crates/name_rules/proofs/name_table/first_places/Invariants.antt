use Rattle.std.proofs.Common.{◌≡◌, ◌≤◌, map, take}
use Rattle.raw_trees.specs.Raw.{name_at_of}
use Rattle.module_semantics.specs.NameRules.{names_of}
use Rattle.name_rules.specs.Places.{TellsPlaces}
use Rattle.name_rules.proofs.name_table.first_places.Given as goal

-- the places of the names so far are kept
abbrev pub invariant-loop-name : goal.invariant-loop-name
invariant-loop-name l = record {
  tells : TellsPlaces l.places.entries (names_of (map name_at_of (take l.name-index l.names)));
  place : l.place ≡ l.name-index;
  few : l.place ≤ 4294967295;
}
