use Rattle.journal_laws.proofs.GivingUp.{bags_go_at_prunes, all_bags_go_at_reloads}
use Rattle.journal_laws.proofs.data.data_is_given_up_at_prunes_and_reloads.Goals as goal

pub returns-clause-one : goal.returns-clause-one
returns-clause-one c language = bags_go_at_prunes language

pub returns-clause-all : goal.returns-clause-all
returns-clause-all c language = all_bags_go_at_reloads language
