use Rattle.std.proofs.Common.{◌≡◌, ◌∙◌, ap, arith, length, sym}
use Rattle.client_plan.specs.Planned.{count_in}
use Rattle.client_plan.proofs.Ends.{counted_all, counted_none}
use Rattle.client_plan.proofs.under_way.UnderWay.count.Goals as goal

pub returns-in-Fetch-clause-made : goal.returns-in-Fetch-clause-made
returns-in-Fetch-clause-made c = λ r p i t. counted_none c.args.self.now _ c.in-Fetch.is r p i t

pub returns-in-Fetch-clause-count : goal.returns-in-Fetch-clause-count
returns-in-Fetch-clause-count c = ap count_in (sym c.in-Fetch.is)

pub returns-in-Finish-clause-made : goal.returns-in-Finish-clause-made
returns-in-Finish-clause-made c = λ r p i t.
    let long : c.len.result ≡ length c.in-Finish.ready.names.items = (let l = c.len.ensures in omega (arith, l)) in
    long ∙ counted_all c.args.self.now _ c.in-Finish.is r p i

pub returns-in-Finish-clause-count : goal.returns-in-Finish-clause-count
returns-in-Finish-clause-count c =
    let long : c.len.result ≡ length c.in-Finish.ready.names.items = (let l = c.len.ensures in omega (arith, l)) in
    long ∙ ap count_in (sym c.in-Finish.is)
