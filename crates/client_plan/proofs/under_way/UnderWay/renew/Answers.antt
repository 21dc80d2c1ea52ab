use Rattle.std.proofs.Common.{sym, ◌∙◌}
use Rattle.std.proofs.Math.Path.{subst}
use Rattle.client_plan.specs.UnderWay.{IsReady}
use Rattle.client_plan.proofs.Ends.{fetch_not_finish, same_finish}
use Rattle.client_plan.proofs.under_way.UnderWay.renew.Goals as goal

pub returns-in-Fetch : goal.returns-in-Fetch
returns-in-Fetch c = λ r p ready v rises is i same. fetch_not_finish _ ready (sym c.in-Fetch.is ∙ is)

pub returns-in-Finish : goal.returns-in-Finish
returns-in-Finish c = λ r p ready v rises is i same.
    c.renew.ensures r p v rises (subst (IsReady r p) (sym (same_finish c.in-Finish.ready ready (sym c.in-Finish.is ∙ is))) i) same
