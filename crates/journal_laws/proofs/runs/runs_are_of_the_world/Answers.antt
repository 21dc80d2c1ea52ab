use Rattle.journal_laws.proofs.InWorld.{are_of_runs}
use Rattle.journal_laws.proofs.runs.runs_are_of_the_world.Goals as goal

pub returns : goal.returns
returns c = are_of_runs
