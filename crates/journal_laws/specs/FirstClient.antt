-- The first client of a small page, and all that happened in it, after some steps.
use Rattle.std.specs.Prelude.{List}
use Rattle.client_model.specs.Journal.{Journal}
use Rattle.client_model.specs.Runtime.{Runtime}
use Rattle.client_model.specs.Past.{runtime_after}
use Rattle.world_model.specs.World.{Step}
use Rattle.world_model.specs.Playing.{Stage}
use Rattle.world_laws.specs.Taken.{Life, life_of}
use Rattle.journal_laws.specs.OfClients.{journal_at}

-- what it began with, and what came to it
abbrev pub life_in : Stage → List Step → Life
life_in stage past = life_of stage.language stage.roots stage.shelves past 1

-- the client
abbrev pub client_of : Stage → List Step → Runtime
client_of stage past =
    let life : Life = life_in stage past in runtime_after stage.language life.opening life.past

-- all that happened in it
abbrev pub journal_in : Stage → List Step → Journal
journal_in stage past = journal_at stage.language stage.roots stage.shelves past 1
