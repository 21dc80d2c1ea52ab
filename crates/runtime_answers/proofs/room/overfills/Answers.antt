use Rattle.std.proofs.Common.{◌≡◌, ◌+◌, true, length, ap, sym, ◌∙◌}
use Rattle.std.specs.Prelude.{◌&&◌, nat_lt}
use Rattle.std.proofs.lemmas.Bool.{false≢true}
use Rattle.hmr_types.specs.declared.limits.TheConstants.{INSTANCES}
use Rattle.client_model.specs.Taking.{is_applied, made_by_plan}
use Rattle.client_plan.specs.UnderWay.{is_applied_told}
use Rattle.client_model.specs.Requesting.{request}
use Rattle.module_language.specs.ModuleLanguage.{module_language}
use Rattle.runtime_answers.proofs.Full.{applied_told}
use Rattle.runtime_answers.proofs.Untold.{untold_told}
use Rattle.runtime_answers.proofs.room.overfills.Goals as goal

pub returns-then-not-is_applied-clause-many : goal.returns-then-not-is_applied-clause-many
returns-then-not-is_applied-clause-many g c = λ r k e.
    sym (ap (λ b. b && nat_lt INSTANCES (length r.instances + made_by_plan r.page.plan r)) (sym c.is_applied.ensures ∙ c.if-not-is_applied.true))

pub returns-then-not-is_applied-clause-room : goal.returns-then-not-is_applied-clause-room
returns-then-not-is_applied-clause-room g c = λ few applied. absurd (false≢true (sym c.if-not-is_applied.true ∙ c.is_applied.ensures ∙ applied))

pub returns-clause-many : goal.returns-clause-many
returns-clause-many g c = λ r k e.
    let applied : is_applied c.args.asked.now c.args.msg.now ≡ true = sym c.is_applied.ensures ∙ c.if-not-is_applied.false in
    c.is_full.ensures.many r k (untold_told (request module_language r) ∙ ap is_applied_told e ∙ applied_told c.args.asked.now c.args.msg.now applied)
    ∙ sym (ap (λ b. b && nat_lt INSTANCES (length r.instances + made_by_plan r.page.plan r)) applied)

pub returns-clause-room : goal.returns-clause-room
returns-clause-room g c = λ few applied. c.is_full.ensures.room few
