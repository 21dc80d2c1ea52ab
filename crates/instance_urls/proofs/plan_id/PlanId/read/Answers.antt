use Rattle.std.proofs.Common.{◌<◌, ◌^◌, arith, ap₂, ◌∙◌}
use Rattle.std.proofs.lemmas.Str.Pattern.{split_once_first}
use Rattle.instance_urls.specs.Plans.{both}
use Rattle.instance_urls.proofs.Numbers.{dotless, dotted}
use Rattle.instance_urls.proofs.PlanTexts.{back_of, front_of, has_dot}
use Rattle.instance_urls.proofs.plan_id.PlanId.read.Goals as goal

pub returns-in-Some-clause-each : goal.returns-in-Some-clause-each
returns-in-Some-clause-each c = λ id in_range is.
    let small : id.page < 2 ^ 64 = omega (arith, in_range.page) in
    let parts = rw c.in-Some.is at (split_once_first 46 c.args.text.now c.split_once.result c.split_once.ensures.cases (omega arith)) in
    let page = c.number_of.ensures.each id.page in_range.page (parts.1 ∙ front_of c.args.text.now id.page id.plan small is) in
    let plan = c.number_of-in-Some.ensures.each id.plan in_range.plan (parts.2 ∙ back_of c.args.text.now id.page id.plan small is) in
    c.both.ensures ∙ ap₂ both page plan

pub returns-in-None-clause-each : goal.returns-in-None-clause-each
returns-in-None-clause-each c = λ id in_range is.
    let small : id.page < 2 ^ 64 = omega (arith, in_range.page) in
    let none = rw c.in-None.is at (split_once_first 46 c.args.text.now c.split_once.result c.split_once.ensures.cases (omega arith)) in
    absurd (has_dot c.args.text.now id.page id.plan small is none)

pub returns-in-Some-clause-value : goal.returns-in-Some-clause-value
returns-in-Some-clause-value c =
    let parts = rw c.in-Some.is at (split_once_first 46 c.args.text.now c.split_once.result c.split_once.ensures.cases (omega arith)) in
    c.both.ensures
    ∙ dotted c.args.text.now c.in-Some.page.now c.in-Some.plan.now c.number_of.result c.number_of-in-Some.result parts.1 parts.2 c.number_of.ensures.value c.number_of-in-Some.ensures.value

pub returns-in-None-clause-value : goal.returns-in-None-clause-value
returns-in-None-clause-value c =
    dotless c.args.text.now (rw c.in-None.is at (split_once_first 46 c.args.text.now c.split_once.result c.split_once.ensures.cases (omega arith)))
