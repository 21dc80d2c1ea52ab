use Rattle.world_model.specs.Steps.{world_after}
use Rattle.world_model.proofs.Tying.{understands, run_sound}
use Rattle.world_model.proofs.laws.every_answer_is_understood.Goals as goal

pub returns : goal.returns
returns c language roots shelves past h = understands language roots (world_after language roots shelves past) (run_sound language roots shelves past h)
