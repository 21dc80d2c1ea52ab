use Rattle.std.proofs.Common.{rules}
use Rattle.hmr_types.proofs.Tables.{is_table-iff}
use Rattle.hmr_types.proofs.table.Table.as_slice.Goals as goal

pub returns-clause-table : goal.returns-clause-table
returns-clause-table c = (is_table-iff c.args.self.now).0 (search rules)
