use Rattle.std.proofs.Common.{ap, ◌∙◌}
use Rattle.core_model.specs.Page.{Plan}
use Rattle.core_model.specs.View.{table_of}
use Rattle.page_plan.specs.Renewals.{is_growing, renewed_view}
use Rattle.page_plan.proofs.versions.is_table_of.Goals as goal

pub is_told-requires-clause-growing : goal.is_told-requires-clause-growing
is_told-requires-clause-growing c = ap (λ (p : Plan). is_growing p c.args.view.now) c.new-update.ensures

pub returns : goal.returns
returns c = λ t. c.is_told.ensures t ∙ ap (λ (p : Plan). table_of (renewed_view p c.args.view.now)) c.new-update.ensures
