use Rattle.std.proofs.Common.{◌≡◌, ◌++◌, drop, map}
use Rattle.module_tree.specs.Tree.{item_of}
use Rattle.import_links.specs.Links.{links_of}
use Rattle.import_links.proofs.link.links_of.Given as goal

-- the links so far, and those of what is left, are all
abbrev pub invariant-loop-item : goal.invariant-loop-item
invariant-loop-item l = l.links.items ++ links_of l.base (map item_of (drop l.item-index l.items)) ≡ links_of l.base (map item_of l.items)
