use Rattle.journal_laws.proofs.DataResting.{none_is_left}
use Rattle.journal_laws.proofs.data.no_data_without_an_instance.Goals as goal

pub returns : goal.returns
returns c language = none_is_left language
