-- Answers in the state that a history makes.
use Rattle.std.proofs.Common.{◌≡◌, ℕ, Bool, false, ◌++◌, ap, sym, ◌∙◌, subst}
use Rattle.std.specs.Prelude.{Result}
use Rattle.update_msgs.specs.declared.desk.HubStop.{HubStop}
use Rattle.core_model.specs.Core.{Event}
use Rattle.events_and_replies.specs.declared.event.Reply.{Reply}
use Rattle.turn_lock.specs.Histories.{grown}
use Rattle.hmr_hub.specs.declared.hub_reply.HubReply.{HubReply}
use Rattle.hmr_hub.specs.declared.hub_reply.HubReply.TheVariants as hub_reply
use Rattle.hmr_hub.specs.Outcomes.{Answers, IsAnswer, IsOutcome, is_recorded}
use Rattle.hmr_hub.specs.Questions.{Asked, tell, transcript_of, history_of}
use Rattle.hmr_hub.specs.Recordings.{Recording}
use Rattle.transcripts.specs.Transcripts.{IsTranscript, recorded}
use Rattle.hmr_hub.proofs.Histories.{transcript_more, transcript_of_history}

module _ (opening value : Recording) (by : ℕ) (same : value.roots ≡ opening.roots) where
  -- an answer after the transcript is one after its history
  moved : (asked : Asked) (told : HubReply) (kept : Bool) → IsAnswer value.roots value.entries asked told kept → IsAnswer opening.roots (transcript_of (history_of value.entries)) asked told kept
  moved asked told kept a =
      subst (λ roots. IsAnswer roots (transcript_of (history_of value.entries)) asked told kept) same
      (subst (λ entries. IsAnswer value.roots entries asked told kept) (sym (transcript_of_history value.entries)) a)

  -- an event was told
  pub told_answer : (after : Recording) (event : Event) (result : Result Reply HubStop) (kept : Bool) → kept ≡ is_recorded result → after.roots ≡ value.roots
      → after.entries ≡ value.entries ++ recorded by event result → IsOutcome value.roots value.entries event result → IsTranscript after.roots after.entries
      → Answers opening (history_of value.entries) by (tell event) (hub_reply.Told result) kept
  told_answer after event result kept k roots entries outcome legal =
      let seen : after.entries ≡ transcript_of (grown (history_of value.entries) by (tell event) kept) =
      entries ∙ (ap (λ es. es ++ recorded by event result) (sym (transcript_of_history value.entries)) ∙ sym (transcript_more (history_of value.entries) by event result kept k)) in
      record {
        is = moved (tell event) (hub_reply.Told result) kept (k, outcome);
        transcript = subst (λ es. IsTranscript opening.roots es) seen (subst (λ rs. IsTranscript rs after.entries) (roots ∙ same) legal);
      }

  -- nothing was told
  pub quiet_answer : (asked : Asked) (told : HubReply) → IsAnswer value.roots value.entries asked told false → IsTranscript value.roots value.entries
      → Answers opening (history_of value.entries) by asked told false
  quiet_answer asked told a legal = record {
    is = moved asked told false a;
    transcript = subst (λ es. IsTranscript opening.roots es) (sym (transcript_of_history value.entries)) (subst (λ rs. IsTranscript rs value.entries) same legal);
  }
