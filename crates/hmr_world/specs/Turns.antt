-- One turn of a client: its request, the core's reply, and what the client makes of it.
use Rattle.std.specs.Prelude.{ℕ, List}
use Rattle.update_msgs.specs.declared.message.ServerMsg.{ServerMsg}
use Rattle.core_model.specs.Names.{Name}
use Rattle.core_model.specs.Requests.{Reply}
use Rattle.core_model.specs.Core.{Core, step}
use Rattle.core_model.specs.Exchange.{event_of, message_for}
use Rattle.client_model.specs.Requesting.{request}
use Rattle.client_model.specs.Runtime.{Runtime}
use Rattle.client_model.specs.Taking.{Taking, take}
use Rattle.module_language.specs.ModuleLanguage.{module_language}
use Rattle.server_core.specs.Kept.{Kept}
use Rattle.runtime_state.specs.declared.runtime.HotRuntime.{HotRuntime}
use Rattle.world_model.specs.Ties.{IsUnderstood}
use Rattle.world_model.specs.Turning.{take_some}
use Rattle.hmr_world.specs.Clients.{IsRuntime}
use Rattle.world_parts.specs.Cores.{IsCore}

-- the core after the request that stands, and its reply
abbrev pub answer_to : List Name → Core → ℕ → Runtime → Core × Reply
answer_to roots c i r = step roots c (event_of i (request module_language r))

-- what the client makes of the reply
abbrev pub taking_of : List Name → Core → ℕ → Runtime → Taking
taking_of roots c i r = take_some module_language r (message_for r.format (answer_to roots c i r).1)

-- the client understands this message
pub record CanTake {F : Type 0} (m : ServerMsg) (h : HotRuntime F) : Type 0 where
  pub r : Runtime
  pub is : IsRuntime r h
  pub understood : IsUnderstood (take module_language r m).answer

-- the client understands what the core replies to the request that stands
pub record CanTurn {F : Type 0} (i : ℕ) (core : Kept) (h : HotRuntime F) : Type 0 where
  pub c : Core
  pub r : Runtime
  pub core_is : IsCore c core
  pub is : IsRuntime r h
  pub understood : IsUnderstood (taking_of core.roots c i r).answer
