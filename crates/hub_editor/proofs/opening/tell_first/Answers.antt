use Rattle.std.proofs.Common.{rules, ◌≡◌, ◌++◌, ◌∷◌, [], true, inl, sym, ◌∙◌, subst}
use Rattle.std.specs.Prelude.{IfErr, is_ok}
use Rattle.std.specs.Option.{option_to_list}
use Rattle.hub_editor.specs.Causes.{IsRoomStop}
use Rattle.hub_editor.specs.Edits.{edit_of, text_in}
use Rattle.hub_editor.specs.Openings.{Opening}
use Rattle.hub_editor.proofs.Calls.{cause_refused}
use Rattle.hub_editor.proofs.Openings.{first_refused, if_err_then, opening_more, still_alone}
use Rattle.hub_editor.proofs.opening.tell_first.Goals as goal

pub returns-in-Err-clause-cause : goal.returns-in-Err-clause-cause
returns-in-Err-clause-cause g c =
    cause_refused c.told_work.new.pass c.in_ok-work.work c.in-Err.refusal c.stop_by.result c.in_ok-work.ensures.told.answered (sym c.answer.ensures.is ∙ c.in-Err.is) c.in-Err.ensures.given
    c.stop_by.ensures.text c.stop_by.ensures.names c.stop_by.ensures.sources

pub returns-clause-opens : goal.returns-clause-opens
returns-clause-opens g c = λ edits jobs o.
    let ok : is_ok c.in_ok-work.work.answer ≡ true = search rules in
    subst (λ e. Opening (edits ++ e ∷ []) c.told_work.new.pass (jobs ++ option_to_list c.into_job.result)) c.in_ok-work.ensures.edit
    (subst (λ js. Opening (edits ++ edit_of c.in_ok-work.work ∷ []) c.told_work.new.pass (jobs ++ js)) (sym c.into_job.ensures.job)
    (opening_more c.args.pass.now c.told_work.new.pass edits jobs (edit_of c.in_ok-work.work) c.in_ok-work.work.answer c.requires.alone ok o c.in_ok-work.ensures.told))

pub returns-in_err-work-clause-stopped : goal.returns-in_err-work-clause-stopped
returns-in_err-work-clause-stopped g c =
    let room : IfErr c.from_residual.result IsRoomStop = search rules in
    if_err_then c.from_residual.result room (λ stop h. inl (still_alone c.args.pass.now c.told_work.new.pass c.requires.alone c.in_err-work.ensures.untold, h))

pub returns-in-Err-clause-stopped : goal.returns-in-Err-clause-stopped
returns-in-Err-clause-stopped g c =
    first_refused c.args.pass.now c.told_work.new.pass (edit_of c.in_ok-work.work) (c.args.name, text_in c.args.text) c.in_ok-work.work.answer c.in-Err.refusal c.stop_by.result c.requires.alone
    c.in_ok-work.ensures.edit (sym c.answer.ensures.is ∙ c.in-Err.is) c.stop_by.ensures.is c.in_ok-work.ensures.told
