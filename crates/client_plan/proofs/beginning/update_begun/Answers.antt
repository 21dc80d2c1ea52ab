use Rattle.std.proofs.Common.{◌≡◌}
use Rattle.std.specs.Prelude.{IfOk}
use Rattle.std.proofs.Math.Path.{subst}
use Rattle.std.proofs.lemmas.Option.{IfSome_then}
use Rattle.hmr_types.specs.declared.words.PlanKind.TheVariants.{Update}
use Rattle.core_model.specs.Page.{new_plan}
use Rattle.client_model.specs.Answering.{begin}
use Rattle.client_plan.specs.UnderWay.{IsUnderWay}
use Rattle.client_plan.proofs.Alone.{lone_begins}
use Rattle.client_plan.proofs.beginning.update_begun.Goals as goal

pub returns-clause-under_way : goal.returns-clause-under_way
returns-clause-under_way c = λ r roots view whole.
    subst (λ pairs. IfOk c.started.result (IsUnderWay (begin Update c.args.replaced.now pairs r) (new_plan Update c.args.replaced.now))) c.in_ok-pairs.ensures
    (c.started.ensures.under_way r Update c.args.replaced.now roots view c.in_ok-plan.ensures
    (IfSome_then c.alone_in-alone.result c.alone_in-alone.ensures (λ n a. lone_begins r c.args.roots.now c.args.view.now c.args.whole c.args.replaced.now n.now roots view whole a)))

pub returns-clause-planned : goal.returns-clause-planned
returns-clause-planned c = λ loaded. c.started.ensures.planned Update c.args.replaced.now loaded c.in_ok-plan.ensures (λ e. absurd (cc))

pub returns-clause-pairs : goal.returns-clause-pairs
returns-clause-pairs c = subst (λ pairs. IfOk c.started.result (λ u. u.pairs.items ≡ pairs)) c.in_ok-pairs.ensures c.started.ensures.pairs
