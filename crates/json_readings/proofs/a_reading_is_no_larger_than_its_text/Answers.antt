use Rattle.json_readings.proofs.Sizes.{size-read}
use Rattle.json_readings.proofs.a_reading_is_no_larger_than_its_text.Goals as goal

pub returns : goal.returns
returns c = size-read
