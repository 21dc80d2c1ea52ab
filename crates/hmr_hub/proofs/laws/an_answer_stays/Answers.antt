use Rattle.hmr_hub.proofs.Answers.{answered_longer, answered_moved}
use Rattle.hmr_hub.proofs.laws.an_answer_stays.Goals as goal

pub returns-clause-longer : goal.returns-clause-longer
returns-clause-longer c = answered_longer

pub returns-clause-moved : goal.returns-clause-moved
returns-clause-moved c = answered_moved
