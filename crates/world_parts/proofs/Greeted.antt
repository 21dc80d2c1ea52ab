-- What the core says to a client that comes.
use Rattle.std.proofs.Common.{◌≡◌, ◌+◌, ℕ, Bool, true, false, List, [], refl, sym, ap, ◌∙◌, arith}
use Rattle.std.specs.Prelude.{Option, Some, None, is_some}
use Rattle.std.proofs.Math.Path.{subst}
use Rattle.std.proofs.lemmas.Bool.{false≢true}
use Rattle.hmr_types.specs.declared.limits.TheConstants.{LARGEST_CLIENT}
use Rattle.update_msgs.specs.Writable.{IsBetween}
use Rattle.update_msgs.specs.declared.message.ServerMsg.TheVariants as msg
use Rattle.core_model.specs.Names.{Name}
use Rattle.core_model.specs.Client.{Client}
use Rattle.core_model.specs.Requests as requests
use Rattle.core_model.specs.declared.refusal.Refusal.{Refusal}
use Rattle.core_model.specs.declared.refusal.Refusal.TheVariants.{UnknownClient, TooManyClients, OutOfTurn, Mismatch, Unfetched, Ignored, BadRoots}
use Rattle.core_model.specs.Core as model
use Rattle.core_model.specs.Core.{connect, connected, if_room, is_full, admitted, step}
use Rattle.client_model.specs.Runtime.{Runtime}
use Rattle.server_core.specs.Kept.{Kept}
use Rattle.events_and_replies.specs.Said.{IsWritten, said}
use Rattle.events_and_replies.specs.declared.event.Reply.{Reply}
use Rattle.events_and_replies.specs.declared.event.Reply.TheVariants as replies
use Rattle.world_model.specs.Ties.{TiedAt}
use Rattle.world_parts.specs.Cores.{IsCore}
use Rattle.world_parts.specs.Greetings.{greeting_in}
use Rattle.world_parts.specs.declared.greetings.Greeting.{Greeting}
use Rattle.world_parts.specs.declared.greetings.Greeting.TheVariants as greetings

abbrev is_taken : Greeting → Bool
is_taken (greetings.Taken i roots) = true
is_taken greetings.BadRoots = false
is_taken greetings.Full = false

abbrev is_full_word : Greeting → Bool
is_full_word (greetings.Taken i roots) = false
is_full_word greetings.BadRoots = false
is_full_word greetings.Full = true

abbrev number_of : Greeting → ℕ
number_of (greetings.Taken i roots) = i
number_of greetings.BadRoots = 0
number_of greetings.Full = 0

abbrev roots_of : Greeting → List Name
roots_of (greetings.Taken i roots) = roots
roots_of greetings.BadRoots = []
roots_of greetings.Full = []

-- the number that a newcomer is told is a client's

refusal_takes_none : (refusal : Refusal) → is_taken (greeting_in (replies.Refused refusal)) ≡ false
refusal_takes_none UnknownClient = refl
refusal_takes_none TooManyClients = refl
refusal_takes_none OutOfTurn = refl
refusal_takes_none (Mismatch n told kept) = refl
refusal_takes_none (Unfetched n) = refl
refusal_takes_none Ignored = refl
refusal_takes_none BadRoots = refl

pub taken_number : (reply : Reply) (i : ℕ) (told : List Name) → IsWritten reply
    → greeting_in reply ≡ greetings.Taken i told → IsBetween 1 LARGEST_CLIENT i
taken_number (replies.To (msg.Connected client roots)) i told w h =
    subst (IsBetween 1 LARGEST_CLIENT) (ap number_of h)
    (w 1 (record { least = omega arith; most = omega arith }))
taken_number (replies.To m) i told w h = absurd (false≢true (ap is_taken h))
taken_number (replies.Refused refusal) i told w h =
    absurd (false≢true (sym (refusal_takes_none refusal) ∙ ap is_taken h))
taken_number (replies.Edited outcome) i told w h = absurd (false≢true (ap is_taken h))
taken_number (replies.EditRefused refusal) i told w h = absurd (false≢true (ap is_taken h))
taken_number (replies.Settled settled) i told w h = absurd (false≢true (ap is_taken h))
taken_number replies.Gone i told w h = absurd (false≢true (ap is_taken h))

-- the client was taken
pub record IsAdmitted (after : model.Core × requests.Reply) (roots : List Name) (core : model.Core)
    (i : ℕ) (told : List Name) : Type 0 where
  pub is : after ≡ admitted roots core
  pub number : i ≡ core.given + 1
  pub roots_are : told ≡ roots

room_taken : (full : Bool) (roots : List Name) (core : model.Core) (i : ℕ) (told : List Name)
    → greeting_in (said (if_room full roots core).1) ≡ greetings.Taken i told
    → IsAdmitted (if_room full roots core) roots core i told
room_taken true roots core i told h = absurd (false≢true (ap is_taken h))
room_taken false roots core i told h =
    record { is = refl; number = ap number_of (sym h); roots_are = ap roots_of (sym h) }

pub taken_by : (bad : Bool) (roots : List Name) (core : model.Core) (i : ℕ) (told : List Name)
    → greeting_in (said (connected bad roots core).1) ≡ greetings.Taken i told
    → IsAdmitted (connected bad roots core) roots core i told
taken_by true roots core i told h = absurd (false≢true (ap is_taken h))
taken_by false roots core i told h = room_taken (is_full core) roots core i told h

room_bad : (full : Bool) (roots : List Name) (core : model.Core)
    → greeting_in (said (if_room full roots core).1) ≡ greetings.BadRoots
    → if_room full roots core ≡ (core, requests.refused BadRoots)
room_bad true roots core h = absurd (false≢true (ap is_full_word (sym h)))
room_bad false roots core h = absurd (false≢true (ap is_taken (sym h)))

pub bad_by : (bad : Bool) (roots : List Name) (core : model.Core)
    → greeting_in (said (connected bad roots core).1) ≡ greetings.BadRoots
    → connected bad roots core ≡ (core, requests.refused BadRoots)
bad_by true roots core h = refl
bad_by false roots core h = room_bad (is_full core) roots core h

room_full : (full : Bool) (roots : List Name) (core : model.Core)
    → greeting_in (said (if_room full roots core).1) ≡ greetings.Full
    → if_room full roots core ≡ (core, requests.refused TooManyClients)
room_full true roots core h = refl
room_full false roots core h = absurd (false≢true (ap is_taken (sym h)))

pub full_by : (bad : Bool) (roots : List Name) (core : model.Core)
    → greeting_in (said (connected bad roots core).1) ≡ greetings.Full
    → connected bad roots core ≡ (core, requests.refused TooManyClients)
full_by true roots core h = absurd (false≢true (ap is_full_word h))
full_by false roots core h = room_full (is_full core) roots core h

-- the next number isn't an open client's
pub absent_record : (i : ℕ) (o : Option Client) (r : Option Runtime) → is_some o ≡ false → TiedAt i o r → r ≡ None
absent_record i o None e h = refl
absent_record i None (Some r) e h = absurd h
absent_record i (Some c) (Some r) e h = absurd (false≢true (sym e))

-- What a newcomer is told.

-- the core after the hello, and its reply
pub record IsTold (roots : List Name) (core : model.Core) (names : List Name)
    (after : Kept) (reply : Reply) : Type 0 where
  pub stands : IsCore (step roots core (connect names)).0 after
  pub says : greeting_in (said (step roots core (connect names)).1) ≡ greeting_in reply

pub newcomer_told : (old after : Kept) (copy names : List Name) (reply : Reply) → copy ≡ names
    → ((c : model.Core) → IsCore c old → IsCore (step old.roots c (connect copy)).0 after)
    → ((c : model.Core) → IsCore c old → said (step old.roots c (connect copy)).1 ≡ reply)
    → (c : model.Core) → IsCore c old → IsTold old.roots c names after reply
newcomer_told old after copy names reply same stands says core is =
    subst (λ ns. IsTold old.roots core ns after reply) same
    (record { stands = stands core is; says = ap greeting_in (says core is) })
