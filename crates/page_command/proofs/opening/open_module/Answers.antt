use Rattle.std.proofs.Common.{rules, Some, subst}
use Rattle.std.specs.Prelude.{Ok}
use Rattle.core_model.specs.Sources.{edit_answer, sources_after}
use Rattle.version_map.specs.Standing.{Answers}
use Rattle.page_command.proofs.FirstEdits.{settled_job}
use Rattle.page_command.proofs.opening.open_module.Goals as goal

pub returns-in-Ok-Job-clause-stands : goal.returns-in-Ok-Job-clause-stands
returns-in-Ok-Job-clause-stands c =
    λ past h. settled_job past c.args.name c.in_ok-own_name.own_name c.args.text.items c.in_ok-own_text.own_text.items c.in-Ok-Job.ver _ _
    (search rules) (search rules)
    (subst (λ x. Answers (Ok x) (edit_answer (sources_after past) c.args.name (Some c.args.text.items))) c.in-Ok-Job.field-0-is (c.in-Ok-Job.ensures.answer past h))
    (c.in-Ok-Job.ensures.stands past h)
    c.in_ok-settle-in-Ok-Job.ensures
