-- When a full reload is the answer to an Ask.
use Rattle.std.specs.Prelude.{◌≡◌, ℕ, true, false, List, [], None}
use Rattle.hmr_types.specs.declared.words.ReloadCause.{ReloadCause}
use Rattle.update_msgs.specs.declared.message.ServerMsg.TheVariants as msg
use Rattle.core_model.specs.Names.{Name}
use Rattle.core_model.specs.Sources.{Sources}
use Rattle.core_model.specs.Spread.{IsReloadWanted}
use Rattle.core_model.specs.Client.{Client, is_held, changed, dropped}
use Rattle.core_model.specs.Requests.{Reply, to_client}

-- the reply is a full reload
pub record IsFullReload (reply : Reply) : Type 0 where
  pub cause : ReloadCause
  pub path : List Name
  pub batch : ℕ
  pub triggered : List Name
  pub is : reply ≡ to_client (msg.FullReload cause path batch triggered)

-- no plan is under way, no notice waits, the page is loaded, nothing is dropped, the client isn't held,
-- and some unaccepted path ends badly
pub record IsReloadDue (s : Sources) (c : Client) : Type 0 where
  pub idle : c.page.plan ≡ None
  pub told : c.notices ≡ []
  pub loaded : c.page.loaded ≡ true
  pub whole : dropped c ≡ []
  pub free : is_held s c ≡ false
  pub wanted : IsReloadWanted c.page.view c.roots (changed s c) c.page.forced
