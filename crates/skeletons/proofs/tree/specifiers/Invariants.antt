use Rattle.std.proofs.Common.{◌≡◌, take}
use Rattle.skeletons.proofs.tree.specifiers.Given as goal

abbrev pub invariant-loop-name : goal.invariant-loop-name
invariant-loop-name l = l.specs.items ≡ take l.name-index l.names
