-- Runs of the world in the module language, in the words of the product's headline.
use Rattle.std.specs.Prelude.{◌≡◌, ℕ, List}
use Rattle.update_msgs.specs.declared.message.ClientMsg.TheVariants as told
use Rattle.core_model.specs.Names.{Name}
use Rattle.core_model.specs.Sources.{Text, Sources}
use Rattle.core_model.specs.FreshLoad.{Served}
use Rattle.core_model.specs.Client.{Client}
use Rattle.core_model.specs.Requests.{Reply}
use Rattle.core_model.specs.Core.{step}
use Rattle.core_model.specs.Exchange.{event_of}
use Rattle.core_laws.specs.Reloading.{IsReloadDue}
use Rattle.client_model.specs.Runtime.{Runtime}
use Rattle.client_model.specs.Requesting.{request}
use Rattle.module_language.specs.ModuleLanguage.{module_language}
use Rattle.world_model.specs.World.{World, Step}
use Rattle.world_model.specs.Steps.{world_after}
use Rattle.world_model.specs.Ties.{WentOn}
use Rattle.world_laws.specs.Quiet.{IsOpen}
use Rattle.world_laws.specs.Taken.{Life, life_of}

-- Any edits, transform results, fetches and client events, in any order: a list of steps.
pub record Run : Type 0 where
  pub roots : List Name  -- the server's roots
  pub shelves : List (List (Text × ℕ))  -- the closures that each client's embedding program has
  pub steps : List Step  -- the newest first

-- the world that the run makes
abbrev pub world_of : Run → World
world_of run = world_after module_language run.roots run.shelves run.steps

-- the sources, as the run leaves them
abbrev pub sources_of : Run → Sources
sources_of run = (world_of run).core.sources

-- what is served
abbrev pub served_of : Run → Served
served_of run = (sources_of run).served

-- what client i began with, and all that came to it
abbrev pub life_in : Run → ℕ → Life
life_in run i = life_of module_language run.roots run.shelves run.steps i

-- In the run, whose clients all went on, client i is open: the core's record of it, and the client itself.
pub record HasClient (run : Run) (i : ℕ) (c : Client) (r : Runtime) : Type 0 where
  pub went : WentOn module_language run.roots run.shelves run.steps
  pub is_open : IsOpen (world_of run) i c r

-- what the server answers in the next turn of client i
abbrev pub next_reply : Run → ℕ → Runtime → Reply
next_reply run i r = (step run.roots (world_of run).core (event_of i (request module_language r))).1

-- the client asks what there is to do, nothing else is to be done first, and an unaccepted path reaches a
-- root or a module that declines
pub record IsReloadTurn (run : Run) (c : Client) (r : Runtime) : Type 0 where
  pub asks : request module_language r ≡ told.Ask
  pub due : IsReloadDue (sources_of run) c
