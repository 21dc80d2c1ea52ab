use Rattle.std.proofs.Common.{take}
use Rattle.fresh_loads.specs.Searching.{AreExports}
use Rattle.fresh_loads.proofs.exports.Exports.of.Given as goal

-- the sets of the modules so far
abbrev pub invariant-loop-name : goal.invariant-loop-name
invariant-loop-name l = AreExports l.versions.served (take l.name-index l.names) l.exports
