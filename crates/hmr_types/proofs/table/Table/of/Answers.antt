use Rattle.std.proofs.Common.{rules, refl}
use Rattle.hmr_types.proofs.Tables.{is_table-iff}
use Rattle.hmr_types.proofs.table.Table.of.Goals as goal

pub returns-then-is_table-clause-table : goal.returns-then-is_table-clause-table
returns-then-is_table-clause-table c = ((λ _. (is_table-iff c.args.pairs.items).0 (search rules)), λ _. refl)

pub returns-else-is_table-clause-table : goal.returns-else-is_table-clause-table
returns-else-is_table-clause-table c = ((λ e. absurd (cc)), λ facts. let h = (is_table-iff c.args.pairs.items).1 facts in search rules)
