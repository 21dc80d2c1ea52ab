use Rattle.world_laws.proofs.TurnsEnding.{busy}
use Rattle.world_laws.proofs.turns.found_causes_are_missing_modules.Goals as goal

pub returns-clause-cause : goal.returns-clause-cause
returns-clause-cause f language roots shelves past i c r went is_open e now = ((busy language roots shelves past i c r went is_open e).current now).cause

pub returns-clause-texts : goal.returns-clause-texts
returns-clause-texts f language roots shelves past i c r went is_open e now = ((busy language roots shelves past i c r went is_open e).current now).texts
