-- What the core's replies say.
use Rattle.std.specs.Prelude.{ℕ, Option, Some, None}
use Rattle.output_lines.specs.declared.words.SettleWord.{SettleWord}
use Rattle.output_lines.specs.declared.words.SettleWord.TheVariants as words
use Rattle.core_model.specs.Sources.{EditAnswer, job, same, removed, edit_refused}
use Rattle.version_map.specs.declared.outcome.EditOutcome.{EditOutcome}
use Rattle.version_map.specs.declared.outcome.EditOutcome.TheVariants as edits
use Rattle.version_map.specs.declared.outcome.Settled.{Settled}
use Rattle.version_map.specs.declared.outcome.Settled.TheVariants as settlings
use Rattle.events_and_replies.specs.declared.event.Reply.{Reply}
use Rattle.events_and_replies.specs.declared.event.Reply.TheVariants as replies

-- what an edit brought
abbrev pub outcome_as : EditOutcome → EditAnswer
outcome_as (edits.Job v) = job v
outcome_as edits.Same = same
outcome_as (edits.Removed v) = removed v

-- the answer to an edit; no other reply has one
abbrev pub answer_in : Reply → Option EditAnswer
answer_in (replies.Edited outcome) = Some (outcome_as outcome)
answer_in (replies.EditRefused refusal) = Some (edit_refused refusal)
answer_in (replies.Settled settled) = None
answer_in (replies.To message) = None
answer_in (replies.Refused refusal) = None
answer_in replies.Gone = None

-- the version of a job
abbrev pub job_in : EditAnswer → Option ℕ
job_in (job v) = Some v
job_in same = None
job_in (removed v) = None
job_in (edit_refused word) = None

-- what became of a result
abbrev pub settled_word : Settled → SettleWord
settled_word settlings.Served = words.Served
settled_word (settlings.RefusedText fault) = words.Refused fault
settled_word settlings.Late = words.Late

-- what became of a result; no other reply says it
abbrev pub word_in : Reply → Option SettleWord
word_in (replies.Edited outcome) = None
word_in (replies.EditRefused refusal) = None
word_in (replies.Settled settled) = Some (settled_word settled)
word_in (replies.To message) = None
word_in (replies.Refused refusal) = None
word_in replies.Gone = None
