-- An event that a record can tell, at a version that an edit can have, is well formed.
use Rattle.core_model.specs.Sources.{edit, result}
use Rattle.core_model.specs.Requests.{ask, fetch, applied_as, aborted, invalidate}
use Rattle.core_model.specs.Formed.{IsFormed}
use Rattle.core_model.specs.Core.{Event, change, connect, request, disconnect}
use Rattle.event_facts.specs.Tellable.{IsTellable}
use Rattle.transcripts.specs.Transcripts.{HasVersion}

pub formed_event : (event : Event) → IsTellable event → HasVersion event → IsFormed event
formed_event (change (edit n t)) told version = told
formed_event (change (result n t o v)) told version = (told.0, version, told.1)
formed_event (connect names) told version = told
formed_event (request i ask) told version = told
formed_event (request i (fetch n)) told version = told
formed_event (request i (applied_as table)) told version = told
formed_event (request i aborted) told version = told
formed_event (request i (invalidate n v)) told version = (told, version)
formed_event (disconnect i) told version = told
