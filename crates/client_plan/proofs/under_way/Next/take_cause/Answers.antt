use Rattle.std.proofs.Common.{ap, ◌∙◌}
use Rattle.std.specs.Option.{option_map}
use Rattle.client_plan.specs.UnderWay.{cause_of}
use Rattle.client_plan.proofs.Ends.{cause_at_end, cause_ready}
use Rattle.client_plan.proofs.under_way.Next.take_cause.Goals as goal

pub returns-in-Fetch : goal.returns-in-Fetch
returns-in-Fetch c = λ r p i t. cause_at_end c.args.self.now _ c.in-Fetch.is r p i t

pub returns-in-Finish : goal.returns-in-Finish
returns-in-Finish c = λ r p i t. ap (option_map cause_of) c.take.ensures.value ∙ cause_ready c.args.self.now _ c.in-Finish.is r p i
