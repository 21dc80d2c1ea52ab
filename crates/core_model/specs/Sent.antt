-- When a full reload is sent.
use Rattle.std.specs.Prelude.{◌≡◌, true, false, List, [], None}
use Rattle.core_model.specs.Names.{Name}
use Rattle.core_model.specs.Sources.{Sources}
use Rattle.core_model.specs.Spread.{IsReason}
use Rattle.core_model.specs.Client.{Client, is_held, changed, dropped}

-- No plan is under way, no notice waits, the page is loaded, nothing is dropped, the client isn't held,
-- and this path is the reason of a reload.
pub record IsReloadSent (s : Sources) (c : Client) (path : List Name) : Type 0 where
  pub idle : c.page.plan ≡ None
  pub told : c.notices ≡ []
  pub loaded : c.page.loaded ≡ true
  pub whole : dropped c ≡ []
  pub free : is_held s c ≡ false
  pub reason : IsReason c.page.view c.roots (changed s c) c.page.forced path
