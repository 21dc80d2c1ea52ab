use Rattle.std.proofs.Common.{sym, ◌∙◌}
use Rattle.plan_changes.proofs.changing.change_of.Goals as goal

pub returns-in_ok-update-in-Update-clause-change : goal.returns-in_ok-update-in-Update-clause-change
returns-in_ok-update-in-Update-clause-change g c = λ r p s same are names pairs forced. c.in_ok-update-in-Update.ensures.update r p s same (sym c.kind.ensures ∙ c.in-Update.is) are names pairs forced
