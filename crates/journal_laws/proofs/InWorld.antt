-- Each open client of the world and its journal are those of a run, since it is what came to it makes; so
-- what holds of every run holds of it.
use Rattle.std.proofs.Common.{List, refl, sym}
use Rattle.std.proofs.Math.Path.{subst}
use Rattle.core_model.specs.Names.{Name}
use Rattle.client_model.specs.Language.{Language}
use Rattle.client_model.specs.Journal.{Journal}
use Rattle.client_model.specs.Runtime.{Runtime}
use Rattle.client_model.specs.Past.{runtime_after}
use Rattle.module_language.specs.ModuleLanguage.{module_language}
use Rattle.world_laws.specs.Taken.{Life, life_of}
use Rattle.world_laws.specs.Stops.{IsMadeBy}
use Rattle.world_laws.proofs.Following.{made_run}
use Rattle.journal_laws.specs.Runs.{OfEachRun}
use Rattle.journal_laws.specs.Lives.{InEveryRun}
use Rattle.journal_laws.specs.OfClients.{journal_at, OfEachClient, IsOfRun}

pub are_of_runs : (language : Language) (roots : List Name) → OfEachClient language roots (IsOfRun language)
are_of_runs language roots shelves past i r went e =
    let life : Life = life_of language roots shelves past i in
    record {
      opening = life.opening;
      past = life.past;
      client = subst (IsMadeBy language life.opening life.past) e (made_run language roots shelves past i went);
      happened = refl;
    }

pub of_each_client : (language : Language) (roots : List Name) (Holds : Runtime → Journal → Type 0) → OfEachRun language Holds → OfEachClient language roots Holds
of_each_client language roots Holds each shelves past i r went e =
    let journal : Journal = journal_at language roots shelves past i in
    let run : IsOfRun language r journal = are_of_runs language roots shelves past i r went e in
    subst (λ s. Holds s journal) (sym run.client) (subst (Holds (runtime_after language run.opening run.past)) (sym run.happened) (each run.opening run.past))

pub in_every_run : (Holds : Runtime → Journal → Type 0) → OfEachRun module_language Holds → InEveryRun Holds
in_every_run Holds each run i c r h = of_each_client module_language run.roots Holds each run.shelves run.steps i r h.went h.is_open.open_is
