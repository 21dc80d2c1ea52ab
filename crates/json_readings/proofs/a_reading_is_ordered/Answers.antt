use Rattle.json_readings.proofs.Ordered.{ordered-read}
use Rattle.json_readings.proofs.a_reading_is_ordered.Goals as goal

pub returns : goal.returns
returns c = ordered-read
