use Rattle.std.proofs.Common.{rules, ◌≡◌}
use Rattle.std.proofs.lemmas.Fn.{always_returns_same}
use Rattle.sessions.specs.declared.log.Log.{Log}
use Rattle.serve_reports.proofs.winding.in_order.Goals as goal

pub returns : goal.returns
returns c = record {
  same = c.in_ok-sort_by_key.ensures.permutation;
  rise = c.in_ok-sort_by_key.ensures.sorted (λ (log : Log). log.client) (always_returns_same _ (λ a r. r ≡ a.0.now.client) _ (λ a r f k. search rules));
  stable = c.in_ok-sort_by_key.ensures.stable (λ (log : Log). log.client) (always_returns_same _ (λ a r. r ≡ a.0.now.client) _ (λ a r f k. search rules));
}
