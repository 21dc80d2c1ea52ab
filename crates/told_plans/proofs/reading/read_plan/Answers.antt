use Rattle.serde_json.specs.View.{view}
use Rattle.told_plans.proofs.Causes.{cause_of, told_by}
use Rattle.told_plans.proofs.reading.read_plan.Goals as goal

pub returns-in-Ok-clause-exact : goal.returns-in-Ok-clause-exact
returns-in-Ok-clause-exact c =
    told_by c.args.bytes.now (view c.in-Ok.value) c.plan_in.result (record { utf8 = c.in-Ok.ensures.ok.0; value = c.in-Ok.ensures.ok.1 }) c.plan_in.ensures

pub returns-in-Ok-clause-cause : goal.returns-in-Ok-clause-cause
returns-in-Ok-clause-cause c =
    cause_of c.args.bytes.now (view c.in-Ok.value) c.plan_in.result (record { utf8 = c.in-Ok.ensures.ok.0; value = c.in-Ok.ensures.ok.1 }) c.plan_in.ensures
