use Rattle.played_records.proofs.Played.{script_audited, script_confirmed}
use Rattle.played_records.proofs.scripts.records_of_scripts_are_confirmed.Goals as goal

pub returns-clause-yes : goal.returns-clause-yes
returns-clause-yes c = script_confirmed c.each_step_tells_its_event.ensures

pub returns-clause-audit : goal.returns-clause-audit
returns-clause-audit c = script_audited c.each_step_tells_its_event.ensures
