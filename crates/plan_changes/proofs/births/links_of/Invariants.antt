use Rattle.std.proofs.Common.{◌≡◌, take}
use Rattle.plan_changes.specs.Changing.{links_by}
use Rattle.plan_changes.proofs.births.links_of.Given as goal

abbrev pub invariant-loop-import : goal.invariant-loop-import
invariant-loop-import l = l.links.items ≡ links_by l.numbers l.live (take l.import-index l.imports)
