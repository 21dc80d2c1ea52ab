-- What each client of the world began with, and what came to it since it was opened.
use Rattle.std.specs.Prelude.{ℕ, ◌==◌, List, [], ◌∷◌, Option, Some, None, if◌then◌else◌}
use Rattle.hmr_types.specs.declared.value.Value.{Value}
use Rattle.update_msgs.specs.declared.message.ServerMsg.{ServerMsg}
use Rattle.core_model.specs.Names.{Name}
use Rattle.core_model.specs.Sources.{Text}
use Rattle.core_model.specs.Core.{connect, step, client_at}
use Rattle.core_model.specs.Exchange.{event_of, message_for}
use Rattle.client_model.specs.Language.{Language}
use Rattle.client_model.specs.Runtime.{Runtime, Opening}
use Rattle.client_model.specs.Requesting.{request}
use Rattle.client_model.specs.Past.{Past, message, event}
use Rattle.world_model.specs.World.{World, Step, edits, settles, opens, turn, closes, show, values, fates}
use Rattle.world_model.specs.World.{fresh, fresh_of, fires}
use Rattle.world_model.specs.Turning.{connected_as, opening_of}
use Rattle.world_model.specs.Steps.{world_after}

-- what a client began with, and what came to it since, the newest first
pub record Life : Type 0 where
  pub opening : Opening
  pub past : Past

-- a message comes too, where there is one
abbrev pub message_too : Option ServerMsg → Past → Past
message_too None past = past
message_too (Some m) past = message m ∷ past

-- in a turn of client j the core's answer comes to it
abbrev pub in_turn : Language → List Name → World → ℕ → Option Runtime → ℕ → Life → Life
in_turn language roots w j None i life = life
in_turn language roots w j (Some r) i life = if j == i then record life {
  past =
      message_too (message_for r.format (step roots w.core (event_of j (request language r))).1) life.past;
} else life

-- a client that is opened begins, and the answer to its hello comes
abbrev pub in_open : List (List (Text × ℕ)) → ℕ → List Name → Option ServerMsg → Option ℕ → ℕ → Life → Life
in_open shelves format names m None i life = life
in_open shelves format names m (Some j) i life =
    if j == i then record { opening = opening_of shelves format names j; past = message_too m [] } else life

-- an event comes to the client at whose page it is fired
abbrev pub in_fire : ℕ → Name → Value → Option Runtime → ℕ → Life → Life
in_fire j n value None i life = life
in_fire j n value (Some r) i life = if j == i then record life { past = event n value ∷ life.past } else life

-- the life of client i after a step
abbrev pub lived_in : Language → List Name → List (List (Text × ℕ)) → World → Step → ℕ → Life → Life
lived_in language roots shelves w (edits n t) i life = life
lived_in language roots shelves w (settles n v) i life = life
lived_in language roots shelves w (opens format names) i life =
    let m : Option ServerMsg = message_for format (step roots w.core (connect names)).1 in
    in_open shelves format names m (connected_as m) i life
lived_in language roots shelves w (turn j) i life = in_turn language roots w j (client_at w.clients j) i life
lived_in language roots shelves w (closes j) i life = life
lived_in language roots shelves w (show j) i life = life
lived_in language roots shelves w (values j) i life = life
lived_in language roots shelves w (fates j) i life = life
lived_in language roots shelves w fresh i life = life
lived_in language roots shelves w (fresh_of j) i life = life
lived_in language roots shelves w (fires j n value) i life = in_fire j n value (client_at w.clients j) i life

-- before it is opened a client names no roots, and nothing came
abbrev pub unborn : List (List (Text × ℕ)) → ℕ → Life
unborn shelves i = record { opening = opening_of shelves 1 [] i; past = [] }

-- what client i began with, and what came to it in the steps so far
abbrev pub life_of : Language → List Name → List (List (Text × ℕ)) → List Step → ℕ → Life
life_of language roots shelves [] i = unborn shelves i
life_of language roots shelves (s ∷ past) i = lived_in language roots shelves
    (world_after language roots shelves past) s i (life_of language roots shelves past i)
