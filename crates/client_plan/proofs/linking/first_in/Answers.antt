use Rattle.std.proofs.Common.{ap, sym, ◌∙◌}
use Rattle.std.specs.Option.{option_map}
use Rattle.client_plan.specs.UnderWay.{cause_of}
use Rattle.client_plan.proofs.FirstUnlinked.{module_found, module_passed}
use Rattle.client_plan.proofs.linking.first_in.Goals as goal

pub loop-name-preserved : goal.loop-name-preserved
loop-name-preserved c =
    module_passed c.args.plan.now c.args.view.now c.args.trees.now.entries c.args.names.now c.loop-name.name-index c.name-item.result c.name-item.is c.loop-name-test.true c.loop-name.invariant
    (sym (ap (option_map cause_of) c.in_default.is) ∙ c.in_ok-cause.ensures)

pub returns-in-Some : goal.returns-in-Some
returns-in-Some c =
    module_found c.args.plan.now c.args.view.now c.args.trees.now.entries c.args.names.now c.loop-name.name-index c.name-item.result c.name-item.is c.loop-name-test.true c.loop-name.invariant _
    (sym (ap (option_map cause_of) c.in-Some.is) ∙ c.in_ok-cause.ensures)
