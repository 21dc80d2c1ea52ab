use Rattle.record_agreement.proofs.Agreed.{record_confirmed, record_has_text, transcript_confirmed}
use Rattle.record_agreement.proofs.agreement.records_are_confirmed.Goals as goal

pub returns-clause-text : goal.returns-clause-text
returns-clause-text c = record_has_text

pub returns-clause-yes : goal.returns-clause-yes
returns-clause-yes c = record_confirmed

pub returns-clause-transcripts : goal.returns-clause-transcripts
returns-clause-transcripts c = transcript_confirmed
