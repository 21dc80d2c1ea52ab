use Rattle.record_laws.proofs.Saying.{ask_is, reply_is, rest_is}
use Rattle.record_laws.proofs.laws.sound_records_are_true.Goals as goal

pub returns-clause-replies : goal.returns-clause-replies
returns-clause-replies c = reply_is

pub returns-clause-rests : goal.returns-clause-rests
returns-clause-rests c = rest_is

pub returns-clause-asks : goal.returns-clause-asks
returns-clause-asks c = ask_is
