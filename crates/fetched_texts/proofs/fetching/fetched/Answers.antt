use Rattle.std.proofs.Common.{Some, None, sym, ◌∙◌}
use Rattle.std.specs.Prelude.{OnOk}
use Rattle.std.proofs.Math.Path.{subst}
use Rattle.module_semantics.specs.ModuleText.{parsing}
use Rattle.client_model.specs.Runtime.{broken}
use Rattle.module_language.specs.ModuleLanguage.{module_language}
use Rattle.fetched_texts.specs.Reads.{IsRead}
use Rattle.client_plan.specs.UnderWay.{IsFetched, IsUnderWay, with_cause_of}
use Rattle.client_plan.specs.declared.cause.Cause.TheVariants.{Broken}
use Rattle.client_plan.specs.declared.under_way.UnderWay.{UnderWay}
use Rattle.client_plan.proofs.Caused.{caused}
use Rattle.fetched_texts.proofs.Unread.{bad_fetched}
use Rattle.fetched_texts.proofs.fetching.fetched.Goals as goal

pub returns-in-Some-clause-under_way : goal.returns-in-Some-clause-under_way
returns-in-Some-clause-under_way c = λ r p roots view is needs.
    let read : IsRead c.args.name.now (parsing c.args.text.now) (Some c.in-Some.found) =
    subst (λ bytes. IsRead c.args.name.now (parsing bytes) (Some c.in-Some.found)) (c.as_bytes.ensures.value ∙ c.as_str.ensures)
    (subst (IsRead c.args.name.now (parsing c.as_bytes.result.now)) c.in-Some.is c.in_ok-found.ensures) in
    subst (λ outcome. OnOk c.add_text.result (IsFetched outcome r p c.args.name.now c.args.version c.args.text.now c.add_text.new.self)) (sym read.1) (c.add_text.ensures.under_way r p c.args.text.now roots view is needs read.0)

pub returns-in_ok-copy_name-in-None-clause-under_way : goal.returns-in_ok-copy_name-in-None-clause-under_way
returns-in_ok-copy_name-in-None-clause-under_way c = λ r p roots view is needs.
    let name = c.args.name.now in
    let read : IsRead name (parsing c.args.text.now) None =
    subst (λ bytes. IsRead name (parsing bytes) None) (c.as_bytes.ensures.value ∙ c.as_str.ensures)
    (subst (IsRead name (parsing c.as_bytes.result.now)) c.in-None.is c.in_ok-found.ensures) in
    let left : UnderWay = record c.args.plan.now { cause = c.put.new.place } in
    bad_fetched (module_language.transformed name c.args.text.now) r p name c.args.version c.args.text.now left read
    (subst (λ n. IsUnderWay (with_cause_of (broken n) r) p left) c.in_ok-copy_name-in-None.ensures
    (subst (λ o. IsUnderWay (with_cause_of (broken c.in_ok-copy_name-in-None.field-0) r) p (record c.args.plan.now { cause = o })) (sym c.put.ensures) (caused r p (Broken c.in_ok-copy_name-in-None.field-0) c.args.plan.now is)))

pub returns-in_ok-copy_name-in-None-clause-planned : goal.returns-in_ok-copy_name-in-None-clause-planned
returns-in_ok-copy_name-in-None-clause-planned c = λ loaded planned counted.
    record { staged = planned.staged; trees = planned.trees; loads = planned.loads }
