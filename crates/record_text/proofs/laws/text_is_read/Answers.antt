use Rattle.record_text.proofs.ReadBack.{text_is_of_one, text_is_read}
use Rattle.record_text.proofs.TextBack.{read_is_text}
use Rattle.record_text.proofs.laws.text_is_read.Goals as goal

pub returns-clause-back : goal.returns-clause-back
returns-clause-back c = text_is_read

pub returns-clause-one : goal.returns-clause-one
returns-clause-one c = text_is_of_one

pub returns-clause-written : goal.returns-clause-written
returns-clause-written c = read_is_text
