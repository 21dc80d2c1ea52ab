use Rattle.events_and_replies.specs.Said.{event_of}
use Rattle.transcripts.proofs.EventForms.{formed_event}
use Rattle.transcripts.proofs.forming.note_formed.Goals as goal

pub returns-clause-formed : goal.returns-clause-formed
returns-clause-formed c = formed_event (event_of c.args.event.now) c.note_event.ensures c.requires
