use Rattle.std.proofs.Common.{◌≡◌, drop}
use Rattle.client_plan.specs.Renewing.{put_each}
use Rattle.client_plan.proofs.renewing.renew.Given as goal

-- what is left is put in
abbrev pub invariant-loop-name : goal.invariant-loop-name
invariant-loop-name l = put_each l.plan (drop l.name-index l.names) l.view ≡ put_each l.plan l.names l.fn.view
