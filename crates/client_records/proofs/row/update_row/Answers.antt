use Rattle.std.proofs.Common.{sym, ◌∙◌}
use Rattle.client_records.proofs.Rows.{idle_row, update_row}
use Rattle.client_records.proofs.row.update_row.Goals as goal

pub returns-then-are_none-clause-row : goal.returns-then-are_none-clause-row
returns-then-are_none-clause-row c = λ dropped. idle_row c.args.replaced c.args.pairs (sym c.are_none.ensures ∙ c.if-are_none.true)

pub returns-else-are_none-clause-row : goal.returns-else-are_none-clause-row
returns-else-are_none-clause-row c = λ dropped. update_row c.args.replaced c.args.pairs (sym c.are_none.ensures ∙ c.if-are_none.false)
