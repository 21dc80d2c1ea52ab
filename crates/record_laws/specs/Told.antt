-- What a sound record says of its core.
use Rattle.std.specs.Prelude.{◌≡◌, ◌↔◌, ℕ, List, [], Some}
use Rattle.core_model.specs.Client.{Client}
use Rattle.core_model.specs.Core.{Core, client_at, request, step}
use Rattle.core_model.specs.FreshLoad.{fresh_table, missing_of}
use Rattle.core_model.specs.Names.{Name}
use Rattle.core_model.specs.Requests.{Reply, ask}
use Rattle.core_laws.specs.Reloading.{IsFullReload, IsReloadDue}
use Rattle.events_and_replies.specs.Said.{said}
use Rattle.record_text.specs.Told.{reply_text}
use Rattle.record_laws.specs.Answers.{reply_told}

-- a connected client has this table, which is just what its page would load anew from its own roots, and of
-- that nothing is missing
pub record HasFreshTable (core : Core) (i : ℕ) (table : List (Name × ℕ)) : Type 0 where
  pub client : Client
  pub is : client_at core.clients i ≡ Some client
  pub fresh : table ≡ fresh_table core.sources.served client.roots
  pub nothing_missing : missing_of core.sources.served client.roots ≡ []

-- the reply of the core to an Ask is told, and it is a full reload exactly where one is due
pub record IsAskTold (roots : List Name) (core : Core) (i : ℕ) (client : Client)
    (reply : List ℕ) : Type 0 where
  pub answer : Reply
  pub is : (step roots core (request i ask)).1 ≡ answer
  pub told : reply ≡ reply_text (reply_told (said answer))
  pub reload : IsFullReload answer ↔ IsReloadDue core.sources client
