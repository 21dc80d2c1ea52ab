use Rattle.record_laws.proofs.Judging.{sound_is_yes, yes_is_sound}
use Rattle.record_laws.proofs.laws.yes_is_of_sound_records.Goals as goal

pub returns : goal.returns
returns c text steps rests = (yes_is_sound text steps rests, sound_is_yes text steps rests)
