use Rattle.std.proofs.Common.{◌≡◌, ◌++◌, drop}
use Rattle.page_showing.specs.Showing.{apart}
use Rattle.page_showing.proofs.showing.tell_apart.Given as goal

abbrev pub invariant-loop-import : goal.invariant-loop-import
invariant-loop-import l = l.edges.items ++ apart l.links l.live l.importer (drop l.import-index l.imports) ≡ l.fn.edges.items ++ apart l.links l.live l.importer l.imports
