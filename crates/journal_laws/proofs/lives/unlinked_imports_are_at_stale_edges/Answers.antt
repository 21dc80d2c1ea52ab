use Rattle.std.proofs.Math.Path.{subst}
use Rattle.std.specs.Prelude.{Some}
use Rattle.core_model.specs.Core.{client_at}
use Rattle.module_language.specs.ModuleLanguage.{module_language}
use Rattle.world_laws.specs.Fresh.{IsUnlinkedStale}
use Rattle.world_laws.specs.Runs.{world_of}
use Rattle.world_laws.proofs.Unlinked.{unlinked_run}
use Rattle.journal_laws.proofs.lives.unlinked_imports_are_at_stale_edges.Goals as goal

pub returns : goal.returns
returns f run i c r h =
    subst (λ o. IsUnlinkedStale module_language (world_of run) o (Some r)) h.is_open.connected
    (subst (IsUnlinkedStale module_language (world_of run) (client_at (world_of run).core.clients i)) h.is_open.open_is
    (unlinked_run module_language run.roots run.shelves run.steps h.went i))
