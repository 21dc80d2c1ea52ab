use Rattle.std.proofs.Common.{◌≡◌, List, ◌∷◌, None, sym, ◌∙◌, ap}
use Rattle.std.specs.Prelude.{Ok, Err}
use Rattle.std.specs.Vec.{with_items}
use Rattle.std.proofs.Math.Path.{subst}
use Rattle.core_model.specs.Core.{change}
use Rattle.core_model.specs.Sources.{Change, edit, edit_answer, sources_after}
use Rattle.version_map.specs.Standing as sources
use Rattle.version_map.specs.declared.outcome.EditFault.TheVariants.{Refused}
use Rattle.version_map.specs.declared.outcome.EditOutcome.TheVariants as edits
use Rattle.events_and_replies.specs.declared.event.Reply.TheVariants as replies
use Rattle.server_core.specs.Clients.{AreClients, numbers_of}
use Rattle.server_core.specs.Inside.{kept_of}
use Rattle.server_core.specs.Kept.{IsStep}
use Rattle.server_core.proofs.Changing.{edited_step, outcome_is, refused_edit, removed_step, removal_free, same_removal}
use Rattle.server_core.proofs.Keeping.{refilled}
use Rattle.server_core.proofs.page_core.Core.take_away.Goals as goal

pub returns-in-Ok-Removed : goal.returns-in-Ok-Removed
returns-in-Ok-Removed c =
    let n = c.args.name.now in
    let old = kept_of c.self.inside in
    let new = c.take_away.new.self in
    let reply = replies.Edited (edits.Removed c.in-Ok-Removed.ver) in
    let clients = c.tell_changed.new.clients in
    let full = refilled c.self.inside.clients clients (c.tell_changed.ensures.numbers ∙ ap numbers_of c.deref_mut.ensures.value) in
    subst (λ k. IsStep (change (edit n None)) k (record old { sources = new; clients = (with_items c.self.inside.clients clients).items }) (Ok reply)) c.self.view_is
    (subst (λ l. IsStep (change (edit n None)) old (record old { sources = new; clients = l }) (Ok reply)) (sym full)
    (removed_step old n new clients c.in-Ok-Removed.ver (λ past h. c.in-Ok-Removed.ensures.stands past h)
    (λ past h. sym (same_removal (sources_after past) c.self.inside.versions h n) ∙ subst (λ x. sources.Answers (Ok x) (edit_answer c.self.inside.versions n None)) c.in-Ok-Removed.field-0-is c.in-Ok-Removed.ensures.answer)
    (λ s rows h e. c.tell_changed.ensures.stands s rows (subst (AreClients s rows) (sym c.deref_mut.ensures.value) h) e)))

pub returns-in-Ok-Same : goal.returns-in-Ok-Same
returns-in-Ok-Same c =
    let n = c.args.name.now in
    let old = kept_of c.self.inside in
    let new = c.take_away.new.self in
    let answered : (past : List Change) → sources.StandsFor past c.self.inside.versions → sources.Answers (Ok edits.Same) (edit_answer (sources_after past) n None) = λ past h. subst (sources.Answers (Ok edits.Same)) (same_removal (sources_after past) c.self.inside.versions h n) (subst (λ x. sources.Answers (Ok x) (edit_answer c.self.inside.versions n None)) c.in-Ok-Same.field-0-is c.in-Ok-Same.ensures.answer) in
    subst (λ k. IsStep (change (edit n None)) k (record old { sources = new }) (Ok (replies.Edited edits.Same))) c.self.view_is
    (edited_step old n None new edits.Same (λ past h. c.in-Ok-Same.ensures.stands past h) answered (λ past h. outcome_is edits.Same _ (answered past h)))

pub returns-in-Ok-Job : goal.returns-in-Ok-Job
returns-in-Ok-Job c =
    let n = c.args.name.now in
    let old = kept_of c.self.inside in
    let new = c.take_away.new.self in
    let answered : (past : List Change) → sources.StandsFor past c.self.inside.versions → sources.Answers (Ok (edits.Job c.in-Ok-Job.ver)) (edit_answer (sources_after past) n None) = λ past h. subst (sources.Answers (Ok (edits.Job c.in-Ok-Job.ver))) (same_removal (sources_after past) c.self.inside.versions h n) (subst (λ x. sources.Answers (Ok x) (edit_answer c.self.inside.versions n None)) c.in-Ok-Job.field-0-is c.in-Ok-Job.ensures.answer) in
    subst (λ k. IsStep (change (edit n None)) k (record old { sources = new }) (Ok (replies.Edited (edits.Job c.in-Ok-Job.ver)))) c.self.view_is
    (edited_step old n None new (edits.Job c.in-Ok-Job.ver) (λ past h. c.in-Ok-Job.ensures.stands past h) answered (λ past h. outcome_is (edits.Job c.in-Ok-Job.ver) _ (answered past h)))

pub returns-in-Err-Refused : goal.returns-in-Err-Refused
returns-in-Err-Refused c =
    let n = c.args.name.now in
    let old = kept_of c.self.inside in
    let new = c.take_away.new.self in
    subst (λ k. IsStep (change (edit n None)) k (record old { sources = new }) (Ok (replies.EditRefused c.in-Err-Refused.refusal))) c.self.view_is
    (refused_edit old n None new c.in-Err-Refused.refusal (λ past h. subst (λ x. sources.Answered (Err x) (sources.StandsFor (edit n None ∷ past) new)) c.in-Err-Refused.field-0-is (c.in-Err-Refused.ensures.stands past h))
    (λ past h. sym (same_removal (sources_after past) c.self.inside.versions h n) ∙ subst (λ x. sources.Answers (Err x) (edit_answer c.self.inside.versions n None)) c.in-Err-Refused.field-0-is c.in-Err-Refused.ensures.answer))

pub returns-in-Err-NoMemory : goal.returns-in-Err-NoMemory
returns-in-Err-NoMemory c = absurd (removal_free c.self.inside.versions c.args.name.now (subst (λ x. sources.Answers (Err x) (edit_answer c.self.inside.versions c.args.name.now None)) c.in-Err-NoMemory.field-0-is c.in-Err-NoMemory.ensures.answer))
