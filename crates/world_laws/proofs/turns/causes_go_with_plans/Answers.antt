use Rattle.world_laws.proofs.TurnsEnding.{busy, at_rest}
use Rattle.world_laws.proofs.turns.causes_go_with_plans.Goals as goal

pub returns-clause-cause : goal.returns-clause-cause
returns-clause-cause f language roots shelves past i c r went is_open e = (at_rest language roots shelves past i c r went is_open e).causeless

pub returns-clause-unsent : goal.returns-clause-unsent
returns-clause-unsent f language roots shelves past i c r went is_open e = (busy language roots shelves past i c r went is_open e).sent
