-- Clients in the world: one opens, makes a turn, shows itself, closes.
use Rattle.std.specs.Prelude.{ℕ, List, [], ◌∷◌, Option, Some, None, slice_get, pred, option_and_then}
use Rattle.hmr_types.specs.declared.value.Value.{Value}
use Rattle.output_lines.specs.declared.words.ClientState.{ClientState}
use Rattle.output_lines.specs.declared.out_line.OutLine.{OutLine}
use Rattle.output_lines.specs.declared.out_line.OutLine.TheVariants as line
use Rattle.update_msgs.specs.declared.message.ServerMsg.{ServerMsg}
use Rattle.update_msgs.specs.declared.message.ServerMsg.TheVariants as msg
use Rattle.core_model.specs.Names.{Name}
use Rattle.core_model.specs.Sources.{Text}
use Rattle.core_model.specs.declared.refusal.Refusal.TheVariants.{BadRoots}
use Rattle.core_model.specs.Requests.{Reply, refused}
use Rattle.core_model.specs.Core.{Core, disconnect, step, client_at, with_client, without_client}
use Rattle.core_model.specs.Exchange.{event_of, message_for}
use Rattle.client_model.specs.Language.{Language}
use Rattle.client_model.specs.Runtime.{Runtime, Opening, new_runtime}
use Rattle.client_model.specs.Requesting.{request}
use Rattle.client_model.specs.Taking.{Taken, took, unexpected, instances_full, is_stopped, Taking}
use Rattle.client_model.specs.Taking.{unchanged_by, take}
use Rattle.client_model.specs.Firing.{Fired, heard, busy, Firing, fire}
use Rattle.client_model.specs.Firing as fires_are
use Rattle.world_model.specs.CaughtUp.{state_of}
use Rattle.world_model.specs.World.{World, Stepped, stepped}

-- the lines of an answer that was taken; none where the client would have made too many instances
abbrev pub lines_taken : Taken → Option (List OutLine)
lines_taken (took lines) = Some lines
lines_taken (unexpected wanted got) = Some []
lines_taken instances_full = None
lines_taken is_stopped = Some []

-- the world after an answer was taken
abbrev pub turned_by : ℕ → World → Core → Taking → Stepped
turned_by i w core taking = record {
  world = record w { core = core; clients = with_client i taking.after w.clients };
  lines = lines_taken taking.answer;
}

-- a message is taken; where there is none, nothing happens
abbrev pub take_some : Language → Runtime → Option ServerMsg → Taking
take_some language r None = unchanged_by (took []) r
take_some language r (Some m) = take language r m

-- the core's reply is taken as the message that it is in the client's format
abbrev pub answered_by : Language → ℕ → Runtime → World → Core × Reply → Stepped
answered_by language i r w after =
    turned_by i w after.0 (take_some language r (message_for r.format after.1))

-- one request, one step of the core, one effect
abbrev pub turn_of : Language → List Name → ℕ → World → Option Runtime → Stepped
turn_of language roots i w None = stepped w (line.Unknown i ∷ [])
turn_of language roots i w (Some r) =
    answered_by language i r w (step roots w.core (event_of i (request language r)))

-- the number of a client that was just connected
abbrev pub connected_as : Option ServerMsg → Option ℕ
connected_as (Some (msg.Connected i roots)) = Some i
connected_as m = None

-- the line of an opening that is refused
abbrev pub refusal_line : Reply → OutLine
refusal_line (refused BadRoots) = line.OpenBadRoots
refusal_line reply = line.OpenRefused

-- no closures where there is no shelf
abbrev pub shelf_or_empty : Option (List (Text × ℕ)) → List (Text × ℕ)
shelf_or_empty None = []
shelf_or_empty (Some shelf) = shelf

-- the closures of the client with this number, from 1
abbrev pub shelf_of : List (List (Text × ℕ)) → ℕ → List (Text × ℕ)
shelf_of shelves i = shelf_or_empty (slice_get shelves (pred i))

-- what the client of this number begins with
abbrev pub opening_of : List (List (Text × ℕ)) → ℕ → List Name → ℕ → Opening
opening_of shelves format names i = record { shelf = shelf_of shelves i; roots = names; format = format }

-- a client that was connected is open
abbrev pub opened_by : Language → List (List (Text × ℕ)) → ℕ → List Name → World →
    Core × Reply → Option ℕ → Stepped
opened_by language shelves format names w after None =
    stepped (record w { core = after.0 }) (refusal_line after.1 ∷ [])
opened_by language shelves format names w after (Some i) =
    let opened : Runtime = new_runtime (opening_of shelves format names i) in
    let taking : Taking = take_some language opened (message_for format after.1) in
    stepped (record w { core = after.0; clients = with_client i taking.after w.clients }) (line.Open i ∷ [])

-- a hello and its answer
abbrev pub open_by : Language → List (List (Text × ℕ)) → ℕ → List Name → World → Core × Reply → Stepped
open_by language shelves format names w after =
    opened_by language shelves format names w after (connected_as (message_for format after.1))

-- a client that closes is no more
abbrev pub close_of : List Name → ℕ → World → Option Runtime → Stepped
close_of roots i w None = stepped w (line.Unknown i ∷ [])
close_of roots i w (Some r) =
    stepped (record w { core = (step roots w.core (disconnect i)).0; clients = without_client i w.clients })
    (line.Close i ∷ [])

-- what a client shows; nothing changes
abbrev pub shown : ℕ → World → (Runtime → List OutLine) → Option Runtime → Stepped
shown i w lines None = stepped w (line.Unknown i ∷ [])
shown i w lines (Some r) = stepped w (lines r)

-- the lines of an event that was fired; none where it isn't heard
abbrev pub lines_heard : Fired → Option (List OutLine)
lines_heard (heard lines) = Some lines
lines_heard busy = None
lines_heard fires_are.is_stopped = None

-- what a client that isn't there, or that is, makes of an event
abbrev pub fired_at : Language → Name → Value → Option Runtime → Option Firing
fired_at language n value None = None
fired_at language n value (Some r) = Some (fire language n value r)

-- the lines of an event that is fired at the client's page; none where it isn't open, or doesn't hear it
abbrev pub heard_at : Language → Name → Value → Option Runtime → Option (List OutLine)
heard_at language n value r = option_and_then (λ f. lines_heard f.answer) (fired_at language n value r)

-- no lines where an event isn't heard
abbrev pub or_no_lines : Option (List OutLine) → List OutLine
or_no_lines None = []
or_no_lines (Some lines) = lines

-- the world after an event was fired
abbrev pub fired_by : ℕ → World → Option (List OutLine) → Option Firing → Stepped
fired_by i w lines None = stepped w []
fired_by i w lines (Some f) =
    stepped (record w { clients = with_client i f.after w.clients }) (or_no_lines lines)

-- an event is fired at the client's page
abbrev pub fire_of : Language → ℕ → Name → Value → World → Option Runtime → Stepped
fire_of language i n value w r = fired_by i w (heard_at language n value r) (fired_at language n value r)

-- whether a client is caught up
abbrev pub state_in : World → ℕ → Runtime → ClientState
state_in w i r = state_of w.core.sources (client_at w.core.clients i) r
