use Rattle.std.proofs.Common.{◌≡◌, take}
use Rattle.core_model.specs.Names.{Name, at}
use Rattle.core_model.specs.FreshLoad.{linked_from}
use Rattle.fresh_loads.specs.Searching.{kept_or_none}
use Rattle.fresh_loads.proofs.linked.Linked.of.Given as goal

-- the names of the links so far
abbrev pub invariant-loop-link : goal.invariant-loop-link
invariant-loop-link l = (m : Name) → kept_or_none (at l.linked m) ≡ linked_from (take l.link-index l.links) m
