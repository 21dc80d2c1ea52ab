-- The clients and closures that a step leaves as they were.
use Rattle.std.proofs.Common.{◌≡◌, sym}
use Rattle.std.proofs.Math.Path.{subst}
use Rattle.handler_table.specs.Held.{Answers}
use Rattle.hmr_world.specs.Clients as clients
use Rattle.world_parts.specs.Shelves.{AreHosts}
use Rattle.hmr_world.specs.Standing.{KeepsWords}
use Rattle.hmr_world.specs.declared.world.World.{World}

pub words_stay : {F : Type 0} (answers : Answers F) (old new : World F) → new.clients ≡ old.clients → new.shelves ≡ old.shelves → KeepsWords answers old → KeepsWords answers new
words_stay answers old new same there h = record {
  clients = subst (λ l. clients.KeepWords answers l.items) (sym same) h.clients;
  shelves = subst (λ l. AreHosts answers l.items) (sym there) h.shelves;
}
