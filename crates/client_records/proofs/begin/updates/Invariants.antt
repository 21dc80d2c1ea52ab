use Rattle.std.proofs.Common.{◌≡◌, ◌≤◌, take}
use Rattle.std.specs.Prelude.{All, map}
use Rattle.hmr_types.specs.declared.limits.TheConstants.{LARGEST_NUMBER}
use Rattle.core_model.specs.Asking.{js_update}
use Rattle.client_records.proofs.begin.updates.Given as goal

abbrev pub invariant-loop-pair : goal.invariant-loop-pair
invariant-loop-pair l = record {
  same : l.updates.items ≡ map (js_update l.sources) (take l.pair-index l.pairs);
  timed : All (λ u. u.timestamp ≤ LARGEST_NUMBER) l.updates.items;
}
