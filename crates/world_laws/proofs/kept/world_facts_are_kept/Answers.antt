use Rattle.world_laws.proofs.Keeping.{first_has, step_keeps}
use Rattle.world_laws.proofs.kept.world_facts_are_kept.Goals as goal

pub returns-clause-first : goal.returns-clause-first
returns-clause-first f = first_has

pub returns-clause-step : goal.returns-clause-step
returns-clause-step f = step_keeps
