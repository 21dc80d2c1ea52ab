use Rattle.hot_events.proofs.Counts.{given_heard}
use Rattle.hot_events.proofs.waiting.what_is_taken_is_heard.Goals as goal

pub returns : goal.returns
returns c = given_heard
