use Rattle.record_laws.proofs.Recorded.{record_is_sound, record_is_yes}
use Rattle.record_laws.proofs.laws.records_of_events_are_sound.Goals as goal

pub returns-clause-sound : goal.returns-clause-sound
returns-clause-sound c = record_is_sound

pub returns-clause-yes : goal.returns-clause-yes
returns-clause-yes c = record_is_yes
