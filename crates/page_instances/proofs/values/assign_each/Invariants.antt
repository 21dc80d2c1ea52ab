use Rattle.std.proofs.Common.{◌≡◌, drop}
use Rattle.std.specs.Prelude.{fold}
use Rattle.client_model.specs.Running.{assigned}
use Rattle.page_instances.proofs.values.assign_each.Given as goal

abbrev pub invariant-loop-change : goal.invariant-loop-change
invariant-loop-change l = fold assigned l.values.items (drop l.change-index l.changes) ≡ fold assigned l.fn.values.items l.changes
