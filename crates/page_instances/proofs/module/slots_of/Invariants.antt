use Rattle.std.proofs.Common.{◌≡◌, take}
use Rattle.page_instances.specs.Scopes.{slots_of}
use Rattle.page_instances.proofs.module.slots_of.Given as goal

abbrev pub invariant-loop-name : goal.invariant-loop-name
invariant-loop-name l = l.slots.items ≡ slots_of l.values (take l.name-index l.names)
