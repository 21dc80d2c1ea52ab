-- What comes to a client: the answers of its server, and events that are fired at its page. What it is
-- after them, and all that happened meanwhile.
use Rattle.std.specs.Prelude.{List, [], ◌∷◌, ◌++◌}
use Rattle.hmr_types.specs.declared.value.Value.{Value}
use Rattle.update_msgs.specs.declared.message.ServerMsg.{ServerMsg}
use Rattle.core_model.specs.Names.{Name}
use Rattle.client_model.specs.Language.{Language}
use Rattle.client_model.specs.Journal.{Journal}
use Rattle.client_model.specs.Runtime.{Runtime, Opening, new_runtime, Did}
use Rattle.client_model.specs.Taking.{take}
use Rattle.client_model.specs.Firing.{fire}

-- a message of the server, or an event with its value
pub data Incoming : Type 0 where
  message : ServerMsg → Incoming
  event : Name → Value → Incoming

-- what comes to a client so far, the newest first
abbrev pub Past : Type 0
Past = List Incoming

-- what one thing that comes makes of a client, and what happens
abbrev pub met : Language → Incoming → Runtime → Did
met language (message m) r = ((take language r m).after, (take language r m).journal)
met language (event n value) r = ((fire language n value r).after, (fire language n value r).journal)

-- what a client is after all that came
abbrev pub runtime_after : Language → Opening → Past → Runtime
runtime_after language opening [] = new_runtime opening
runtime_after language opening (came ∷ past) = (met language came (runtime_after language opening past)).0

-- all that happened meanwhile, the oldest first
abbrev pub journal_of : Language → Opening → Past → Journal
journal_of language opening [] = []
journal_of language opening (came ∷ past) =
    journal_of language opening past ++ (met language came (runtime_after language opening past)).1
