-- What an event is to the pages of clients.
use Rattle.std.specs.Prelude.{◌≡◌, Bool, true, false, ⊤, Some, None}
use Prim.{⊥}
use Rattle.core_model.specs.Core.{Core, Event, change, connect, request, disconnect}
use Rattle.events_and_replies.specs.declared.event.Reply.{Reply}
use Rattle.events_and_replies.specs.declared.event.Reply.TheVariants as replies
use Rattle.server_core.specs.Reading.{page_of}
use Rattle.hmr_hub.specs.declared.passage.Passage.{Passage}
use Rattle.hmr_hub.specs.declared.passage.Passage.TheVariants.{Comes, Goes, Stays}

-- a client comes by it
abbrev pub IsComing : Event → Type 0
IsComing (change ch) = ⊥
IsComing (connect names) = ⊤
IsComing (request i r) = ⊥
IsComing (disconnect i) = ⊥

-- no connected client goes by it, and none comes
abbrev pub IsStaying : Core → Event → Type 0
IsStaying core (change ch) = ⊤
IsStaying core (connect names) = ⊥
IsStaying core (request i r) = ⊤
IsStaying core (disconnect i) = page_of core i ≡ None

abbrev pub IsPassage : Core → Event → Passage → Type 0
IsPassage core event Comes = IsComing event
IsPassage core event (Goes i page) = (event ≡ disconnect i) × (page_of core i ≡ Some page)
IsPassage core event Stays = IsStaying core event

-- the client is told something
abbrev pub is_to : Reply → Bool
is_to (replies.Edited outcome) = false
is_to (replies.EditRefused refusal) = false
is_to (replies.Settled settled) = false
is_to (replies.To message) = true
is_to (replies.Refused refusal) = false
is_to replies.Gone = false
