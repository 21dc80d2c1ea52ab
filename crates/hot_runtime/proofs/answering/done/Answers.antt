use Rattle.std.proofs.Common.{ap, sym, ◌∙◌}
use Rattle.std.specs.Prelude.{IfOk}
use Rattle.std.proofs.Math.Path.{subst}
use Rattle.client_model.specs.Answering.{done}
use Rattle.module_language.specs.ModuleLanguage.{module_language}
use Rattle.client_plan.specs.UnderWay.{is_aborted, is_applied_told}
use Rattle.client_model.specs.Requesting.{request}
use Rattle.runtime_state.specs.Becoming.{Becomes}
use Rattle.runtime_answers.proofs.Untold.{untold_aborted, untold_told}
use Rattle.hot_runtime.proofs.answering.done.Goals as goal

pub returns-in-Applied-clause-becomes : goal.returns-in-Applied-clause-becomes
returns-in-Applied-clause-becomes g c = λ r k s e.
    subst (λ a. IfOk c.apply.result (λ lines. Becomes (done a module_language r) c.apply.new.runtime lines.items)) (sym c.in-Applied.is)
    (c.apply.ensures.becomes r k s (untold_told (request module_language r) ∙ ap is_applied_told (e ∙ c.in-Applied.is)))

pub returns-in-Aborted-clause-becomes : goal.returns-in-Aborted-clause-becomes
returns-in-Aborted-clause-becomes g c = λ r k s e.
    subst (λ a. IfOk c.abort.result (λ lines. Becomes (done a module_language r) c.abort.new.runtime lines.items)) (sym c.in-Aborted.is)
    (c.abort.ensures.becomes r k s (untold_aborted (request module_language r) ∙ ap is_aborted (e ∙ c.in-Aborted.is)))

pub returns-in-Invalidate-clause-becomes : goal.returns-in-Invalidate-clause-becomes
returns-in-Invalidate-clause-becomes g c = λ r k s e.
    subst (λ a. IfOk c.invalidated.result (λ lines. Becomes (done a module_language r) c.invalidated.new.runtime lines.items)) (sym c.in-Invalidate.is)
    (c.invalidated.ensures.becomes r k s)

pub apply-requires-clause-room : goal.apply-requires-clause-room
apply-requires-clause-room g c = c.requires.room (ap is_applied_told c.in-Applied.is)
