use Rattle.world_model.proofs.Tying.{run_sound}
use Rattle.world_model.proofs.laws.clients_are_tied_to_their_records.Goals as goal

pub returns-clause-tied : goal.returns-clause-tied
returns-clause-tied c language roots shelves past h = (run_sound language roots shelves past h).tied

pub returns-clause-served : goal.returns-clause-served
returns-clause-served c language roots shelves past h = (run_sound language roots shelves past h).served
