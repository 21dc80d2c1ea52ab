-- What a connected client's page would load anew, from the roots that the core has of it.
use Rattle.std.proofs.Common.{◌≡◌, ℕ, List, refl, ap, sym, ◌∙◌}
use Rattle.std.specs.Prelude.{Option, Some, None}
use Rattle.std.specs.Option.{option_map}
use Rattle.core_model.specs.Names.{Name}
use Rattle.core_model.specs.FreshLoad.{fresh_load}
use Rattle.core_model.specs.Client.{Client}
use Rattle.core_model.specs.Core.{Event, core_after, client_at}
use Rattle.import_links.specs.Links.{links}
use Rattle.server_core.specs.Kept.{Kept, StandsFor}
use Rattle.server_core.specs.Reading.{roots_of}
use Rattle.server_core.proofs.Looking.{served_alike}
use Rattle.server_core.specs.Loads.{load_at}
use Rattle.fresh_loads.proofs.Same.{same_load}

module _ (past : List Event) (core : Kept) (h : StandsFor past core) (i : ℕ) where
  of_client : (o : Option Client) → option_map (fresh_load links core.sources.served) (option_map (λ (c : Client). c.roots) o) ≡ option_map (λ (c : Client). fresh_load links (core_after core.roots past).sources.served c.roots) o
  of_client None = refl
  of_client (Some c) = ap Some (same_load links core.sources.served (core_after core.roots past).sources.served (λ n. sym (served_alike past core h n)) c.roots)

  pub load_is : (roots : Option (List Name)) → roots ≡ roots_of (core_after core.roots past) i → option_map (fresh_load links core.sources.served) roots ≡ load_at (core_after core.roots past) i
  load_is roots is = ap (option_map (fresh_load links core.sources.served)) is ∙ of_client (client_at (core_after core.roots past).clients i)
