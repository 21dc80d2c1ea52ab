use Rattle.std.proofs.Common.{sym, ◌∙◌}
use Rattle.page_ends.proofs.Foretold.{its_place}
use Rattle.page_ends.proofs.boundaries.live_place.Goals as goal

pub returns-in-Some-clause-place : goal.returns-in-Some-clause-place
returns-in-Some-clause-place g c = λ r s. its_place r c.args.page.now s c.args.name.now c.in-Some.number c.place_of.result (sym c.get.ensures ∙ c.in-Some.is) c.place_of.ensures.some c.place_of.ensures.none
