use Rattle.name_rules.proofs.Places.{has_before}
use Rattle.name_rules.proofs.name_table.NameTable.has_before.Goals as goal

pub returns : goal.returns
returns c = has_before c.args.name.now c.args.self.now c.args.place c.place_of.result c.place_of.ensures c.requires
