-- What the page of a connected client would load anew.
use Rattle.std.specs.Prelude.{ℕ, Option}
use Rattle.std.specs.Option.{option_map}
use Rattle.core_model.specs.FreshLoad.{FreshLoad, fresh_load}
use Rattle.core_model.specs.Client.{Client}
use Rattle.core_model.specs.Core.{Core, client_at}
use Rattle.import_links.specs.Links.{links}

-- what a connected client's page would load anew
abbrev pub load_at : Core → ℕ → Option FreshLoad
load_at core i =
    option_map (λ (c : Client). fresh_load links core.sources.served c.roots) (client_at core.clients i)
