use Rattle.std.proofs.Common.{◌≡◌, None, ap, sym, ◌∙◌}
use Rattle.std.specs.Prelude.{is_some}
use Rattle.std.proofs.lemmas.Bool.{false≢true}
use Rattle.core_model.specs.Names.{at}
use Rattle.client_queue.proofs.Knowing.{found, written}
use Rattle.client_queue.proofs.name_row.set_place.Goals as goal

pub returns-in-Some-clause-places : goal.returns-in-Some-clause-places
returns-in-Some-clause-places c = written c.args.name.now c.in-Some.old.now c.args.place c.args.places.now (c.get_mut.follows.lender c.args.place) c.in-Some.ensures.value (c.get_mut.follows.holds c.args.place)

-- the name is in the map
pub returns-in_default-clause-places : goal.returns-in_default-clause-places
returns-in_default-clause-places c =
    let unknown : at c.args.places.now.entries c.args.name.now ≡ None = found c.args.places.now.entries c.args.name.now ∙ sym c.in_default.ensures.value in
    absurd (false≢true (sym (ap is_some unknown) ∙ c.requires))
