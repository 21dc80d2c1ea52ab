-- What is read of a connected client: whether it is at rest, and its page.
use Rattle.std.specs.Prelude.{ℕ, Bool, false, List, Option, Some, None}
use Rattle.std.specs.Option.{option_map}
use Rattle.core_model.specs.Names.{Name}
use Rattle.core_model.specs.Sources.{Sources}
use Rattle.core_model.specs.View.{table_of}
use Rattle.core_model.specs.Client.{Client}
use Rattle.core_model.specs.Core.{Core, client_at}
use Rattle.client_records.specs.Record.{is_at_rest}

-- the client is connected, and nothing is to be done for it
abbrev pub rests : Sources → Option Client → Bool
rests s None = false
rests s (Some c) = is_at_rest s c

-- whether the client of this number is connected and at rest
abbrev pub is_resting : Core → ℕ → Bool
is_resting core i = rests core.sources (client_at core.clients i)

-- the roots of a connected client's page
abbrev pub roots_of : Core → ℕ → Option (List Name)
roots_of core i = option_map (λ (c : Client). c.roots) (client_at core.clients i)

-- the modules of a connected client's page, with their versions
abbrev pub page_of : Core → ℕ → Option (List (Name × ℕ))
page_of core i = option_map (λ (c : Client). table_of c.page.view) (client_at core.clients i)
