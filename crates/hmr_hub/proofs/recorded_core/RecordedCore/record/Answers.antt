use Rattle.std.proofs.Common.{◌++◌, ◌∷◌, [], ◌∙◌, ap, sym, subst}
use Rattle.events_and_replies.specs.Said.{event_of}
use Rattle.transcripts.specs.KeptEvents.{kept_as}
use Rattle.hmr_hub.specs.Pages.{ArePages}
use Rattle.transcripts.specs.Transcripts.{is_full, past_of}
use Rattle.hmr_hub.proofs.Legal.{place_in}
use Rattle.hmr_hub.proofs.Sounding.{after_event, as_before}
use Rattle.hmr_hub.proofs.recorded_core.RecordedCore.record.Goals as goal

pub invariant_of-self-in_err-passage : goal.invariant_of-self-in_err-passage
invariant_of-self-in_err-passage c =
    let a = c.self.inside in
    let i = c.self.invariant in
    let tied = as_before a.transcript.entries c.make_room.new.self.entries a.core a.pages.items c.reserve.new.self.items c.in_ok-make_room.ensures.entries c.in_ok-reserve.ensures.items i.stands i.transcript i.pages in
    record { stands = tied.stands; transcript = tied.transcript; pages = tied.pages_are }

pub invariant_of-self-2 : goal.invariant_of-self-2
invariant_of-self-2 c =
    let a = c.self.inside in
    let i = c.self.invariant in
    let event = event_of c.args.event in
    let place = place_in a.transcript.entries event (ap (λ r. is_full r.entries event) c.self.view_is ∙ c.requires.place) in
    let stands = c.in_ok-reply.ensures.stands (past_of a.transcript.entries) i.stands in
    let pages = subst (λ pages. ArePages a.core.roots (past_of a.transcript.entries) pages) (sym c.in_ok-reserve.ensures.items) i.pages in
    let later = c.note_passage.ensures a.core.roots (past_of a.transcript.entries) event pages (c.in_ok-passage.ensures (past_of a.transcript.entries) i.stands) (c.in_ok-reply.ensures.reply (past_of a.transcript.entries) i.stands) in
    let next = c.push.ensures ∙ ap (λ es. es ++ (c.args.by, kept_as c.in_ok-kept.kept) ∷ []) c.in_ok-make_room.ensures.entries in
    let tied = after_event a.transcript.entries c.push.new.self.entries c.args.by event (kept_as c.in_ok-kept.kept) a.core c.step.new.self c.note_passage.new.pages.items next c.in_ok-kept.ensures c.in_ok-reply.ensures.roots i.transcript place
    c.requires.formed c.requires.true_result c.requires.may stands later in
    record { stands = tied.stands; transcript = tied.transcript; pages = tied.pages_are }

pub returns-clause-transcript : goal.returns-clause-transcript
returns-clause-transcript c =
    let a = c.self.inside in
    let i = c.self.invariant in
    let event = event_of c.args.event in
    let place = place_in a.transcript.entries event (ap (λ r. is_full r.entries event) c.self.view_is ∙ c.requires.place) in
    let stands = c.in_ok-reply.ensures.stands (past_of a.transcript.entries) i.stands in
    let pages = subst (λ pages. ArePages a.core.roots (past_of a.transcript.entries) pages) (sym c.in_ok-reserve.ensures.items) i.pages in
    let later = c.note_passage.ensures a.core.roots (past_of a.transcript.entries) event pages (c.in_ok-passage.ensures (past_of a.transcript.entries) i.stands) (c.in_ok-reply.ensures.reply (past_of a.transcript.entries) i.stands) in
    let next = c.push.ensures ∙ ap (λ es. es ++ (c.args.by, kept_as c.in_ok-kept.kept) ∷ []) c.in_ok-make_room.ensures.entries in
    let tied = after_event a.transcript.entries c.push.new.self.entries c.args.by event (kept_as c.in_ok-kept.kept) a.core c.step.new.self c.note_passage.new.pages.items next c.in_ok-kept.ensures c.in_ok-reply.ensures.roots i.transcript place
    c.requires.formed c.requires.true_result c.requires.may stands later in
    tied.transcript
