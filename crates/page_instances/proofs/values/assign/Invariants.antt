use Rattle.std.proofs.Common.{◌≡◌, ◌++◌, take, drop, length}
use Rattle.client_model.specs.Running.{assigned}
use Rattle.page_instances.proofs.values.assign.Given as goal

-- those so far are assigned, and the others are as they were
abbrev pub invariant-loop-place : goal.invariant-loop-place
invariant-loop-place l = record {
  long : length l.values.items ≡ length l.fn.values.items;
  assigned : take l.place l.values.items ++ assigned (drop l.place l.values.items) (l.name, l.value) ≡ assigned l.fn.values.items (l.name, l.value);
}
