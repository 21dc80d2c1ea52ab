use Rattle.std.proofs.Common.{ap, ◌∙◌}
use Rattle.core_model.specs.Names.{names_of}
use Rattle.page_plan.proofs.Comparing.{table_names}
use Rattle.client_plan.proofs.Renewal.{versions_renewed}
use Rattle.client_plan.proofs.renewing.renewed_table.Goals as goal

pub renew_rows-requires : goal.renew_rows-requires
renew_rows-requires c = ap names_of c.in_ok-rows.ensures ∙ table_names c.args.view.now

pub returns-in-Some : goal.returns-in-Some
returns-in-Some c = λ rises.
    c.in-Some.ensures.some ∙ c.renew_rows.ensures ∙ versions_renewed c.args.plan.now c.args.view.now c.args.names.now c.in_ok-rows.rows.items rises c.in_ok-rows.ensures
