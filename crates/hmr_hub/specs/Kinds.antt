-- The kinds of questions, as the definitions have them.
use Rattle.events_and_replies.specs.Said.{event_of}
use Rattle.hmr_hub.specs.declared.question.Kind.{Kind}
use Rattle.hmr_hub.specs.declared.question.Kind.TheVariants as kind
use Rattle.hmr_hub.specs.Questions.{Asked, tell, outstanding, report, events, IsAskable}

abbrev pub asked_of : Kind → Asked
asked_of (kind.Tell event) = tell (event_of event)
asked_of (kind.Outstanding n) = outstanding n
asked_of kind.Report = report
asked_of kind.Events = events

-- its event is well formed, and its result true
abbrev pub IsFormedKind : Kind → Type 0
IsFormedKind k = IsAskable (asked_of k)
