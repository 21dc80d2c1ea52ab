use Rattle.std.proofs.Common.{sym, ◌∙◌, subst}
use Rattle.hub_editor.specs.Causes.{IsStopBy}
use Rattle.hub_editor.proofs.Calls.{cause_refused}
use Rattle.hub_editor.proofs.work.Work.place.Goals as goal

pub returns-in-Err-clause-cause : goal.returns-in-Err-clause-cause
returns-in-Err-clause-cause g c =
    cause_refused c.args.pass.now c.args.self.now c.in-Err.refusal c.stop_by.result c.requires.answered (sym c.answer.ensures.is ∙ c.in-Err.is) c.in-Err.ensures.given
    c.stop_by.ensures.text c.stop_by.ensures.names c.stop_by.ensures.sources

pub returns-in-Err-clause-stopped : goal.returns-in-Err-clause-stopped
returns-in-Err-clause-stopped g c =
    subst (λ a. IsStopBy a c.stop_by.result) (sym (sym c.answer.ensures.is ∙ c.in-Err.is)) c.stop_by.ensures.is
