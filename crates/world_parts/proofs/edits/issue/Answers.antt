use Rattle.std.proofs.Common.{sym, ◌∙◌}
use Rattle.world_parts.proofs.Issuing.{issued_none, issued_one}
use Rattle.world_parts.proofs.edits.issue.Goals as goal

pub returns-in_ok-copy_name-in-Some : goal.returns-in_ok-copy_name-in-Some
returns-in_ok-copy_name-in-Some c = λ answer e below. issued_one answer c.in-Some.version c.args.name.now c.in_ok-copy_name-in-Some.field-0 c.args.text.items c.args.jobs.now c.add.new.self c.add.result (sym (c.job_version.ensures answer e) ∙ c.in-Some.is) c.in_ok-copy_name-in-Some.ensures c.add.ensures below

pub returns-in-None : goal.returns-in-None
returns-in-None c = λ answer e below. issued_none answer c.args.name.now c.args.text.items c.args.jobs.now (sym (c.job_version.ensures answer e) ∙ c.in-None.is)
