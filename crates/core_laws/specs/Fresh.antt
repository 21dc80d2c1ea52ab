-- When a page is up to date, and that it is then what would be loaded anew.
use Rattle.std.specs.Prelude.{◌≡◌, true, [], None, if◌then◌else◌}
use Rattle.core_model.specs.Names.{Name, has, at}
use Rattle.core_model.specs.Sources.{Sources}
use Rattle.core_model.specs.FreshLoad.{reached_by, fresh_table, missing_of}
use Rattle.core_model.specs.View.{table_of}
use Rattle.core_model.specs.Client.{Client, changed, dropped}
use Rattle.core_laws.specs.Given.{entry_of}

-- the page is loaded, none of its modules is changed, and none is dropped
pub record IsUpToDate (s : Sources) (c : Client) : Type 0 where
  pub loaded : c.page.loaded ≡ true
  pub unchanged : changed s c ≡ []
  pub whole : dropped c ≡ []

-- the page has exactly what would be loaded anew from its own roots: its modules and their versions, with
-- the served analyses; and nothing that would be loaded is missing
pub record IsFreshLoad (s : Sources) (c : Client) : Type 0 where
  pub table : table_of c.page.view ≡ fresh_table s.served c.roots
  pub entries : (n : Name) →
      at c.page.view n ≡ (if has (reached_by s.served c.roots) n then entry_of (at s.served n) else None)
  pub nothing_missing : missing_of s.served c.roots ≡ []
