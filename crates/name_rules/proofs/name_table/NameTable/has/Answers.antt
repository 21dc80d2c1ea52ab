use Rattle.std.proofs.Common.{◌∙◌}
use Rattle.name_rules.proofs.Places.{has_kept}
use Rattle.name_rules.proofs.name_table.NameTable.has.Goals as goal

pub returns : goal.returns
returns c = rw (← c.self.view_is) (c.contains_key.ensures ∙ has_kept c.args.name.now c.self.inside.places.entries _ c.self.invariant.0)
