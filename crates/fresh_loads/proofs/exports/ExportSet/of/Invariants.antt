use Rattle.std.proofs.Common.{take}
use Rattle.fresh_loads.specs.Searching.{AreMarks}
use Rattle.fresh_loads.proofs.exports.ExportSet.of.Given as goal

-- the set has the names so far
abbrev pub invariant-loop-name : goal.invariant-loop-name
invariant-loop-name l = AreMarks l.set (take l.name-index l.names)
