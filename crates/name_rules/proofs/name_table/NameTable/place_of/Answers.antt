use Rattle.name_rules.proofs.Places.{found_place, no_place}
use Rattle.name_rules.proofs.name_table.NameTable.place_of.Goals as goal

pub returns-in-Some : goal.returns-in-Some
returns-in-Some c = rw (← c.self.view_is) (found_place c.args.name.now c.self.inside.places.entries c.self.inside.names.now _ c.self.invariant.0 c.in-Some.ensures.value)

pub returns-in-None : goal.returns-in-None
returns-in-None c = rw (← c.self.view_is) (no_place c.args.name.now c.self.inside.places.entries c.self.inside.names.now c.self.invariant.0 c.in-None.ensures.value)
