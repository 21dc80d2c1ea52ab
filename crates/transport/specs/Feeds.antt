-- What an end in memory tells of its messages.
use Rattle.std.specs.Prelude.{ℕ, List, Option, Some, None, map}
use Rattle.transport.specs.declared.feed.Feed.{Feed}
use Rattle.transport.specs.declared.feed.Feed.TheVariants.{Pipes, Told}
use Rattle.transport.specs.declared.feed.Lists.{Lists}
use Rattle.transport.specs.declared.mem_link.MemLink.{MemLink}

-- the messages to come that a list holds
abbrev pub coming_of : Lists → List (List ℕ)
coming_of told = map (λ message. message.items) told.coming.items

-- the messages that were sent
abbrev pub sent_by : Lists → List (List ℕ)
sent_by told = map (λ message. message.items) told.sent.items

-- the messages left, of lists alone
abbrev pub left_of : Feed → Option (List (List ℕ))
left_of (Pipes incoming outgoing) = None
left_of (Told told) = Some (coming_of told)

-- the messages sent, of lists alone
abbrev pub sent_of : Feed → Option (List (List ℕ))
sent_of (Pipes incoming outgoing) = None
sent_of (Told told) = Some (sent_by told)

-- the messages left to an end that came back
abbrev pub unread_of : {R : Type 0} → Option (MemLink R) → Option (List (List ℕ))
unread_of None = None
unread_of (Some end) = left_of end.feed

-- the messages that it sent
abbrev pub spoken_of : {R : Type 0} → Option (MemLink R) → Option (List (List ℕ))
spoken_of None = None
spoken_of (Some end) = sent_of end.feed
