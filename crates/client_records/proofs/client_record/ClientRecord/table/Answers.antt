use Rattle.client_records.proofs.Tabling.{is_a_table}
use Rattle.client_records.proofs.client_record.ClientRecord.table.Goals as goal

pub unwrap-requires : goal.unwrap-requires
unwrap-requires c = c.of.ensures.table.1 (is_a_table c.self.inside.view c.in_ok-rows.rows.items c.in_ok-rows.ensures c.self.invariant.rising c.self.invariant.counted)
