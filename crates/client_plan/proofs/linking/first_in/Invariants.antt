use Rattle.std.proofs.Common.{◌≡◌, drop}
use Rattle.core_model.specs.Names.{first_of}
use Rattle.client_plan.specs.Unlinked.{unlinked_by}
use Rattle.client_plan.proofs.linking.first_in.Given as goal

-- those before give no cause
abbrev pub invariant-loop-name : goal.invariant-loop-name
invariant-loop-name l = first_of (unlinked_by l.plan l.view l.trees.entries (drop l.name-index l.names)) ≡ first_of (unlinked_by l.plan l.view l.trees.entries l.names)
