-- The message of a reply, as the definitions have it.
use Rattle.std.proofs.Common.{◌≡◌, refl}
use Rattle.core_model.specs.Exchange.{message_of}
use Rattle.core_model.specs.Requests as requests
use Rattle.core_model.specs.Sources.{job, same, removed, edit_refused}
use Rattle.events_and_replies.specs.Said.{said}
use Rattle.client_exchange.specs.Replies.{message_in}

pub message_said : (reply : requests.Reply) → message_in (said reply) ≡ message_of reply
message_said (requests.edited (job v)) = refl
message_said (requests.edited same) = refl
message_said (requests.edited (removed v)) = refl
message_said (requests.edited (edit_refused word)) = refl
message_said (requests.settled answer) = refl
message_said (requests.to_client m) = refl
message_said (requests.refused refusal) = refl
message_said requests.gone = refl
