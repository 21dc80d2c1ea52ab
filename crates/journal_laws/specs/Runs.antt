-- Every run of a client.
use Rattle.client_model.specs.Language.{Language}
use Rattle.client_model.specs.Journal.{Journal}
use Rattle.client_model.specs.Runtime.{Runtime, Opening}
use Rattle.client_model.specs.Past.{Past, runtime_after, journal_of}

-- it holds of what a client is, and of all that happened in it, after all that came to it: messages of the
-- server and events that were fired, in any order
abbrev pub OfEachRun : Language → (Runtime → Journal → Type 0) → Type 0
OfEachRun language Holds =
    (opening : Opening) (past : Past) →
    Holds (runtime_after language opening past) (journal_of language opening past)
